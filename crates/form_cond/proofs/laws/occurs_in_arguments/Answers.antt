use Rattle.form_cond.proofs.Inside.{of_arguments, of_term}
use Rattle.form_cond.proofs.laws.occurs_in_arguments.Goals as goal

pub returns : goal.returns
returns c = record { function = of_arguments; term = of_term }
