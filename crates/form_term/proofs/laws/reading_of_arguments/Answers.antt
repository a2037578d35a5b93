use Rattle.form_term.proofs.ReadBack.{reading}
use Rattle.form_term.proofs.laws.reading_of_arguments.Goals as goal

pub returns : goal.returns
returns c = reading
