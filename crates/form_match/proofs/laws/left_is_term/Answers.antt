use Rattle.form_match.proofs.Remaining.{left_lawful}
use Rattle.form_match.proofs.laws.left_is_term.Goals as goal

pub returns : goal.returns
returns c = λ us t lawful fits. left_lawful t us lawful fits
