use Rattle.form_tree.proofs.Building as building
use Rattle.form_tree.proofs.Factors as patterns
use Rattle.form_tree.proofs.laws.trees_are_built.Goals as goal

pub returns-clause-sums : goal.returns-clause-sums
returns-clause-sums c = building.built

pub returns-clause-arguments : goal.returns-clause-arguments
returns-clause-arguments c = building.built_argument

pub returns-clause-patterns : goal.returns-clause-patterns
returns-clause-patterns c = patterns.built
