use Rattle.form_gathered.proofs.Numbered.{sums_of_inputs}
use Rattle.form_gathered.proofs.laws.sums_of_inputs.Goals as goal

pub returns : goal.returns
returns c = sums_of_inputs
