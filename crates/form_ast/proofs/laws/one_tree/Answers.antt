use Rattle.form_ast.proofs.Building as building
use Rattle.form_ast.proofs.laws.one_tree.Goals as goal

pub returns-clause-one : goal.returns-clause-one
returns-clause-one c = building.one_tree

pub returns-clause-found : goal.returns-clause-found
returns-clause-found c = building.built_again
