use Rattle.form_flow.proofs.Readying.{choice_is}
use Rattle.form_flow.proofs.compiling.question_of.Goals as goal

pub returns : goal.returns
returns c =
    choice_is c.args.limit c.args.condition.now c.as_slice.result.now c.in_ok-patterns.patterns.items c.new.result c.new.ensures c.in_ok-patterns.ensures.are c.as_slice.ensures
