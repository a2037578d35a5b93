use Rattle.std.proofs.Common.{nat_eq}
use Rattle.form_module.proofs.Added.{with_one}
use Rattle.form_module.proofs.expression_set.ExpressionSet.add.Goals as goal

pub returns : goal.returns
returns c = λ e. with_one c.args.self.now.has_all (nat_eq c.args.expression e) _ _ (c.in_ok-insert.ensures.updates.0 e)
