use Rattle.std.proofs.Common.{◌≡◌, ℕ, ◌+◌, ◌-◌, vec_len}
use Rattle.form_right_side.specs.Marks.{mark_at}
use Rattle.form_right_side.proofs.standing.set_mark.Given as goal

-- what is added was there already, for past the end stands what is unmarked
abbrev pub invariant-loop-marks : goal.invariant-loop-marks
invariant-loop-marks l = (e : ℕ) → mark_at l.marks.items e ≡ mark_at l.fn.marks.items e

abbrev pub decreases-loop-marks : goal.decreases-loop-marks
decreases-loop-marks l = l.position + 1 - vec_len l.marks
