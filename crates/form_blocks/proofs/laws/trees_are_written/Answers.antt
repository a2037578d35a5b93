use Rattle.form_blocks.proofs.WrittenTrees.{tree_written}
use Rattle.form_blocks.proofs.laws.trees_are_written.Goals as goal

pub returns : goal.returns
returns c = tree_written
