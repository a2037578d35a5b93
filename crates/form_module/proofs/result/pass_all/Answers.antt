use Rattle.form_module.proofs.Passing.{all_pass}
use Rattle.form_module.proofs.result.pass_all.Goals as goal

pub returns : goal.returns
returns c = all_pass c.args.statements.now c.args.limit c.is_empty.result c.requires c.if-limit-eq0.false c.is_empty.ensures
