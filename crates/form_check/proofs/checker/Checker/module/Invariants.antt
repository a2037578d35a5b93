use Rattle.std.proofs.Common.{◌≡◌, All}
use Rattle.std.specs.Vec.Iter.{into_iter_items}
use Rattle.form_ast.specs.Lawful.{IsLawfulPart}
use Rattle.form_check.specs.Checker.{state_of, IsConsistent}
use Rattle.form_check.specs.Checking.{part}
use Rattle.form_right_side.specs.Marks.{current_in}
use Rattle.form_right_side.specs.Refusal.{each}
use Rattle.form_check.proofs.checker.Checker.module.Given as goal

-- what is left goes on from the state so far
abbrev pub invariant-loop-placed : goal.invariant-loop-placed
invariant-loop-placed l = record {
  consistent : IsConsistent l.self;
  lawful : All IsLawfulPart (into_iter_items l.placed-iterator);
  current : current_in l.self.standing ≡ current_in l.fn.self.standing;
  checked : each part (state_of l.fn.self) l.fn.written ≡ each part (state_of l.self) (into_iter_items l.placed-iterator);
}
