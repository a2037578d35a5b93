use Rattle.std.proofs.Common.{◌≡◌, length}
use Rattle.form_blocks.specs.Blocks.{fault_at_end}
use Rattle.form_blocks.proofs.module.ModuleText.leave_all.Given as goal

abbrev pub invariant-loop-block : goal.invariant-loop-block
invariant-loop-block l = (fault_at_end l.self ≡ fault_at_end l.initial.self) × (l.self.statements ≡ l.initial.self.statements)

abbrev pub decreases-loop-block : goal.decreases-loop-block
decreases-loop-block l = length l.self.opens
