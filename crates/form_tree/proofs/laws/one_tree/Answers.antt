use Rattle.form_tree.proofs.Building as building
use Rattle.form_tree.proofs.laws.one_tree.Goals as goal

pub returns : goal.returns
returns c = building.one_tree
