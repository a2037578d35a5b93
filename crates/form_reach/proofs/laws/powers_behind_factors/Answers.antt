use Rattle.form_reach.proofs.Often.{behind_power}
use Rattle.form_reach.proofs.laws.powers_behind_factors.Goals as goal

pub returns : goal.returns
returns c = behind_power
