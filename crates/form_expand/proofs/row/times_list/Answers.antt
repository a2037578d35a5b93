use Rattle.std.proofs.Common.{[], ◌∷◌, ap, subst, ◌∙◌}
use Rattle.std.specs.Prelude.{IfOk}
use Rattle.form_term.specs.declared.monomial.Monomial.{Monomial}
use Rattle.form_expand.specs.Left.{row}
use Rattle.form_expand.specs.Listing.{Listing, limited, single}
use Rattle.form_expand.specs.Paired.{IsPaired}
use Rattle.form_expand.specs.Reading.{list_of_pieces}
use Rattle.form_expand.proofs.Behind.{limited_pieces}
use Rattle.form_expand.proofs.row.times_list.Goals as goal

pub returns-in_ok-whole-in-Same : goal.returns-in_ok-whole-in-Same
returns-in_ok-whole-in-Same c =
    let max = c.args.limit in
    let names = c.args.names.now in
    let list = list_of_pieces max names c.args.right.now in
    let same = rw c.in-Same.is at c.in_ok-item.ensures in
    subst (λ (l : Listing). IfOk c.pair.result (IsPaired l))
    (ap (λ (m : Monomial). row max (single m ∷ limited max list ∷ [])) same ∙ ap (λ (l : Listing). row max (single c.args.left ∷ l ∷ [])) (limited_pieces max names c.args.right.now))
    (rw c.in_ok-whole-in-Same.ensures at c.pair.ensures)
