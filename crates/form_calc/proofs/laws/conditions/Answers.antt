use Rattle.form_calc.proofs.Conditions.{condition_read, condition_found}
use Rattle.form_calc.proofs.laws.conditions.Goals as goal

pub returns-clause-truth : goal.returns-clause-truth
returns-clause-truth c = condition_read

pub returns-clause-written : goal.returns-clause-written
returns-clause-written c = condition_found
