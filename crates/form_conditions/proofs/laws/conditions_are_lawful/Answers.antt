use Rattle.form_conditions.proofs.Lawfulness.{lawful}
use Rattle.form_conditions.proofs.laws.conditions_are_lawful.Goals as goal

pub returns : goal.returns
returns c = lawful
