use Rattle.form_frac.proofs.Totals.{added_is_sum}
use Rattle.form_frac.proofs.laws.sums.Goals as goal

pub returns : goal.returns
returns c = added_is_sum
