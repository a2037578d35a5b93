use Rattle.std.proofs.Common.{◌≡◌, ◌+◌, ◌≤◌, length}
use Rattle.std.specs.Vec.Iter.{into_iter_items}
use Rattle.form_ast.specs.Lawful.{AreLawfulModules}
use Rattle.form_check.specs.Checker.{state_of, IsConsistent}
use Rattle.form_check.specs.Checking.{start, module_checked}
use Rattle.form_right_side.specs.Marks.{current_in}
use Rattle.form_right_side.specs.Refusal.{each}
use Rattle.form_check.proofs.checker.check.Given as goal

-- what is left goes on from the state so far
abbrev pub invariant-loop-module : goal.invariant-loop-module
invariant-loop-module l = record {
  consistent : IsConsistent l.checker;
  lawful : AreLawfulModules (into_iter_items l.module-iterator);
  current : current_in l.checker.standing + length (into_iter_items l.module-iterator) ≤ length l.fn.modules.items + 1;
  checked : each module_checked start l.fn.modules.items ≡ each module_checked (state_of l.checker) (into_iter_items l.module-iterator);
}
