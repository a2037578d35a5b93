use Rattle.std.proofs.Common.{[], ◌∷◌, ap, subst, ◌∙◌}
use Rattle.form_expand.specs.Expanding.{list_of_sum}
use Rattle.form_expand.specs.Left.{row}
use Rattle.form_expand.specs.Listing.{Listing, single}
use Rattle.form_expand.specs.Meanings.{Meanings}
use Rattle.form_expand.specs.Reading.{list_of_pieces}
use Rattle.form_flow.specs.Outcome.{made}
use Rattle.form_flow.specs.Sources.{HasEffect}
use Rattle.form_flow.proofs.rest.times_right_side.Goals as goal

pub returns-in_default : goal.returns-in_default
returns-in_default c =
    let max = c.args.limit in
    let s = c.args.right.now in
    subst (λ (names : Meanings). HasEffect c.times_side.result (made (row max (single c.args.left ∷ list_of_sum max names s ∷ [])))) (rw c.in_default.is at c.bound.ensures) c.times_side.ensures

pub returns : goal.returns
returns c =
    let max = c.args.limit in
    let s = c.args.right.now in
    let names = c.in-Some.names in
    subst (λ (l : Listing). HasEffect c.effect_of_pair.result (made (row max (single c.args.left ∷ l ∷ []))))
    (ap (list_of_pieces max names) c.pieces.ensures
    ∙ c.lists_of_trees.ensures.pieces max names s
    ∙ ap (λ (ms : Meanings). list_of_sum max ms s) (rw c.in-Some.is at c.bound.ensures))
    (c.effect_of_pair.ensures (row max (single c.args.left ∷ list_of_pieces max names c.pieces.result.now ∷ [])) c.in_ok-times_list.ensures)
