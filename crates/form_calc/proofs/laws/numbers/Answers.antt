use Rattle.form_calc.proofs.Decimals.{number_alone, number_above, number_below}
use Rattle.form_calc.proofs.laws.numbers.Goals as goal

pub returns : goal.returns
returns c = record { alone = number_alone; above = number_above; below = number_below }
