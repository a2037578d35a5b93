use Rattle.form_frac.proofs.Values.{value_of_made, value_of_sum, value_of_product}
use Rattle.form_frac.proofs.laws.values.Goals as goal

pub returns : goal.returns
returns c = record { made = value_of_made; sum = value_of_sum; product = value_of_product }
