use Rattle.form_expand.proofs.Trees.{pieces_of_tree, limited_sum}
use Rattle.form_expand.proofs.laws.lists_of_trees.Goals as goal

pub returns-clause-pieces : goal.returns-clause-pieces
returns-clause-pieces c = pieces_of_tree

pub returns-clause-within : goal.returns-clause-within
returns-clause-within c = limited_sum
