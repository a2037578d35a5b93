use Rattle.form_levels.proofs.Branching.{runs_parted}
use Rattle.form_levels.proofs.Running.{runs_none, runs_beside, runs_to}
use Rattle.form_levels.proofs.laws.parts_of_levels.Goals as goal

pub returns-clause-none : goal.returns-clause-none
returns-clause-none c = runs_none

pub returns-clause-beside : goal.returns-clause-beside
returns-clause-beside c = runs_beside

pub returns-clause-others : goal.returns-clause-others
returns-clause-others c = runs_to

pub returns-clause-parted : goal.returns-clause-parted
returns-clause-parted c = λ b bs last these others i a x y never. runs_parted b bs last never these others i a x y
