use Rattle.form_levels.proofs.Leaves.{untouched_run, rewritten_run, multiplied_run, discarded_run}
use Rattle.form_levels.proofs.laws.leaves_of_levels.Goals as goal

pub returns-clause-untouched : goal.returns-clause-untouched
returns-clause-untouched c = untouched_run

pub returns-clause-rewritten : goal.returns-clause-rewritten
returns-clause-rewritten c = rewritten_run

pub returns-clause-multiplied : goal.returns-clause-multiplied
returns-clause-multiplied c = multiplied_run

pub returns-clause-discarded : goal.returns-clause-discarded
returns-clause-discarded c = discarded_run
