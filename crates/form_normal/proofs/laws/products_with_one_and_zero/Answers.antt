use Rattle.form_normal.proofs.Units.{one_behind, zero_among}
use Rattle.form_normal.proofs.laws.products_with_one_and_zero.Goals as goal

pub returns-clause-one : goal.returns-clause-one
returns-clause-one c = one_behind

pub returns-clause-zero : goal.returns-clause-zero
returns-clause-zero c = zero_among
