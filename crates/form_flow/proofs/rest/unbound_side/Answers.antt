use Rattle.std.proofs.Common.{ap, sym, ◌∙◌}
use Rattle.form_expand.specs.Expanding.{list_of_sum}
use Rattle.form_expand.specs.Listing.{limited}
use Rattle.form_expand.specs.Meanings.{Meanings, no_meanings}
use Rattle.form_expand.specs.Reading.{list_of_pieces}
use Rattle.form_flow.proofs.rest.unbound_side.Goals as goal

pub returns-in-Some : goal.returns-in-Some
returns-in-Some c = ap (limited c.args.limit) (c.lent.ensures ∙ sym c.in-Some.ensures.list) ∙ c.lists_of_trees.ensures.within c.args.limit no_meanings c.args.right.now

pub returns-in-None : goal.returns-in-None
returns-in-None c =
    let max = c.args.limit in
    let names = c.nothing.result.now in
    let s = c.args.right.now in
    ap (list_of_pieces max names) c.pieces.ensures ∙ c.lists_of_trees.ensures.pieces max names s ∙ ap (λ (ms : Meanings). list_of_sum max ms s) c.nothing.ensures
