use Rattle.form_term.specs.Digits.{number_again}
use Rattle.form_term.proofs.natural.Natural.new.Goals as goal

pub returns : goal.returns
returns c = number_again c.args.value
