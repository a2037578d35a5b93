use Rattle.form_flow.proofs.Readying.{part_is}
use Rattle.form_flow.proofs.compiling.part_of.Goals as goal

pub returns : goal.returns
returns c =
    part_is c.args.limit c.args.rewriting.now c.in_ok-pattern.pattern c.in_ok-right.right c.new-2.result c.new-2.ensures c.in_ok-pattern.ensures.is c.in_ok-right.ensures
