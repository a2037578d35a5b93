use Rattle.std.proofs.Common.{◌∷◌, ◌++◌, map, sym, ap, ◌∙◌}
use Rattle.form_expand.specs.Left.{row}
use Rattle.form_expand.specs.Listing.{Listing, single, limited}
use Rattle.form_expand.specs.Lists.{list_whole}
use Rattle.form_expand.proofs.Rows.{first_same}
use Rattle.form_expand.proofs.product.with_front.Goals as goal

pub returns : goal.returns
returns c = λ max more.
    let lists = map (list_whole max) c.args.lists.items in
    rw (c.in_ok-insert.ensures.items, c.new.ensures, c.in-Some.is)
    (sym (ap (λ (l : Listing). row max (limited max l ∷ lists ++ more)) c.single.ensures ∙ first_same max (single c.in-Some.term) (lists ++ more)))
