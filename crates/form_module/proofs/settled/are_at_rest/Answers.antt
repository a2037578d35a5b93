use Rattle.form_module.proofs.Settling.{both}
use Rattle.form_module.proofs.settled.are_at_rest.Goals as goal

pub returns-then-pass_all : goal.returns-then-pass_all
returns-then-pass_all c = both c.args.statements.now c.args.standing.now c.ascend.result (rw c.if-pass_all.true at c.pass_all.ensures) c.ascend.ensures
