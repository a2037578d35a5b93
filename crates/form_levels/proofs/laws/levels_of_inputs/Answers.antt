use Rattle.form_levels.proofs.Ended.{outputs_had}
use Rattle.form_levels.proofs.laws.levels_of_inputs.Goals as goal

pub returns : goal.returns
returns c = outputs_had
