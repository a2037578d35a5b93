use Rattle.std.proofs.Common.{[], ◌∷◌, ap, subst, ◌∙◌}
use Rattle.form_expand.specs.Expanding.{list_of_sum}
use Rattle.form_expand.specs.Left.{row}
use Rattle.form_expand.specs.Listing.{Listing, single}
use Rattle.form_expand.specs.Meanings.{Meanings, no_meanings}
use Rattle.form_expand.specs.Reading.{list_of_pieces}
use Rattle.form_flow.specs.Outcome.{made}
use Rattle.form_flow.specs.Sources.{HasEffect}
use Rattle.form_flow.proofs.Multiplied.{row_of_terms}
use Rattle.form_flow.proofs.rest.times_side.Goals as goal

pub returns-in-Some : goal.returns-in-Some
returns-in-Some c =
    let max = c.args.limit in
    let s = c.args.right.now in
    subst (HasEffect c.times_each.result)
    (ap made (row_of_terms max c.args.left (list_of_sum max no_meanings s) c.in-Some.list.now c.in-Some.ensures.some (c.lists_of_trees.ensures.within max no_meanings s) c.in-Some.ensures.list))
    c.times_each.ensures

pub returns-in_ok-pair-in-None : goal.returns-in_ok-pair-in-None
returns-in_ok-pair-in-None c =
    let max = c.args.limit in
    let s = c.args.right.now in
    let names = c.nothing.result.now in
    subst (λ (l : Listing). HasEffect c.effect_of_pair.result (made (row max (single c.args.left ∷ l ∷ []))))
    (ap (list_of_pieces max names) c.pieces.ensures
    ∙ c.lists_of_trees.ensures.pieces max names s
    ∙ ap (λ (ms : Meanings). list_of_sum max ms s) c.nothing.ensures)
    (c.effect_of_pair.ensures (row max (single c.args.left ∷ list_of_pieces max names c.pieces.result.now ∷ [])) c.in_ok-pair-in-None.ensures)
