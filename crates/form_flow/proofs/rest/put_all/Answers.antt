use Rattle.std.proofs.Common.{ap, fold, ◌∙◌, sym}
use Rattle.form_expand.specs.Runs.{lists_of}
use Rattle.form_flow.proofs.Behind.{all_behind, and_behind, nothing_left}
use Rattle.form_flow.proofs.rest.put_all.Goals as goal

pub returns : goal.returns
returns c =
    let s = c.args.right.now in
    ap (fold (and_behind c.args.limit s c.args.times) (lists_of c.args.limit c.loop-bindings.behind.items))
    (sym (nothing_left c.loop-bindings.bindings-iterator c.in-None.ensures.steps.0))
    ∙ c.loop-bindings.invariant
    ∙ all_behind c.args.limit s c.args.times (lists_of c.args.limit c.args.behind.items) c.args.matches.items
