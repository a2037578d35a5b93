use Rattle.form_calc.proofs.Calculations.{calculation_read, calculation_found}
use Rattle.form_calc.proofs.laws.calculations.Goals as goal

pub returns-clause-value : goal.returns-clause-value
returns-clause-value c = calculation_read

pub returns-clause-written : goal.returns-clause-written
returns-clause-written c = calculation_found
