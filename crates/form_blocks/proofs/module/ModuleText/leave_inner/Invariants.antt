use Rattle.std.proofs.Common.{◌≡◌, length}
use Rattle.form_blocks.specs.Blocks.{inner_left}
use Rattle.form_blocks.proofs.module.ModuleText.leave_inner.Given as goal

abbrev pub invariant-loop-block : goal.invariant-loop-block
invariant-loop-block l = inner_left l.kind l.self.opens l.self ≡ inner_left l.kind l.initial.self.opens l.initial.self

abbrev pub decreases-loop-block : goal.decreases-loop-block
decreases-loop-block l = length l.self.opens
