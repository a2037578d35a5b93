use Rattle.std.proofs.Common.{◌+◌, ◌-◌, ◌≤◌, length, drop}
use Rattle.form_normal.proofs.Powers.{Merging}
use Rattle.form_normal.proofs.merging.merged.Given as goal

-- what is made and what is left of both
abbrev pub invariant-loop-i : goal.invariant-loop-i
invariant-loop-i l = (l.i ≤ length l.left) × (l.j ≤ length l.right) × Merging l.left l.right l.powers.items (drop l.i l.left) (drop l.j l.right)

abbrev pub decreases-loop-i : goal.decreases-loop-i
decreases-loop-i l = (length l.left - l.i) + (length l.right - l.j)
