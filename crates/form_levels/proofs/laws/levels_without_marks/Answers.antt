use Rattle.form_levels.proofs.Coming.{comes_of, comes_through}
use Rattle.form_levels.proofs.laws.levels_without_marks.Goals as goal

pub returns-clause-of : goal.returns-clause-of
returns-clause-of c = comes_of

pub returns-clause-through : goal.returns-clause-through
returns-clause-through c = comes_through
