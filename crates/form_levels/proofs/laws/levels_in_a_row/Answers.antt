use Rattle.form_levels.proofs.Running.{runs_first, runs_turn}
use Rattle.form_levels.proofs.laws.levels_in_a_row.Goals as goal

pub returns-clause-statements : goal.returns-clause-statements
returns-clause-statements c = runs_first

pub returns-clause-turns : goal.returns-clause-turns
returns-clause-turns c = runs_turn
