use Rattle.form_collect.proofs.Rising.{of_tests}
use Rattle.form_collect.proofs.again.is_collected.Goals as goal

pub returns-then-rise : goal.returns-then-rise
returns-then-rise c = of_tests c.args.list.now c.rise.result c.are_present.result c.if-rise.true c.rise.ensures c.are_present.ensures
