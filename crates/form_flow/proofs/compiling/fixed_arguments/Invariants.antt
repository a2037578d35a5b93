use Rattle.std.proofs.Common.{◌≡◌, map, take}
use Rattle.form_flow.specs.Making.{entry_of}
use Rattle.form_flow.proofs.Readying.{pieces_kept}
use Rattle.form_flow.proofs.compiling.fixed_arguments.Given as goal

abbrev pub invariant-loop-tree : goal.invariant-loop-tree
invariant-loop-tree l = map pieces_kept l.calls.items ≡ map (entry_of l.limit) (take l.tree-index l.trees)
