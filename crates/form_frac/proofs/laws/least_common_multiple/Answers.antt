use Rattle.form_frac.proofs.Values.{lcm_left, lcm_right, lcm_least}
use Rattle.form_frac.proofs.laws.least_common_multiple.Goals as goal

pub returns : goal.returns
returns c = record { left = lcm_left; right = lcm_right; least = lcm_least }
