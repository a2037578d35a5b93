use Rattle.std.proofs.Common.{Option, ap, sym, ◌∙◌}
use Rattle.form_expand.specs.Expanding.{list_of_sum}
use Rattle.form_expand.specs.Listing.{limited}
use Rattle.form_expand.specs.Meanings.{Meanings}
use Rattle.form_flow.specs.Rests.{names_in}
use Rattle.form_flow.proofs.rest.right_side.Goals as goal

pub returns-in_ok-whole-in-Some : goal.returns-in_ok-whole-in-Some
returns-in_ok-whole-in-Some c =
    let max = c.args.limit in
    let s = c.args.right.now in
    ap (limited max) (c.in_ok-whole-in-Some.ensures s c.pieces.ensures) ∙ c.lists_of_trees.ensures.within max c.in-Some.names s
    ∙ ap (λ (o : Option Meanings). list_of_sum max (names_in o) s) (sym c.in-Some.is)
