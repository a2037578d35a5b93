use Rattle.form_print.proofs.Signs.{minus_in_front}
use Rattle.form_print.proofs.laws.first_signs.Goals as goal

pub returns : goal.returns
returns c = minus_in_front
