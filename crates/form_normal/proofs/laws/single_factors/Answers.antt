use Rattle.form_normal.proofs.Lasting.{number_by_one, power_by_one}
use Rattle.form_normal.proofs.laws.single_factors.Goals as goal

pub returns-clause-number : goal.returns-clause-number
returns-clause-number c = number_by_one

pub returns-clause-power : goal.returns-clause-power
returns-clause-power c = power_by_one
