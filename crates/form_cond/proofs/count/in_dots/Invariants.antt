use Rattle.std.proofs.Common.{◌≡◌, ◌≤◌, ◌*◌, ◌^◌, nat_abs, take}
use Rattle.form_cond.specs.Condition.{times_in, total}
use Rattle.form_cond.proofs.count.in_dots.Given as goal

abbrev pub invariant-loop-dot : goal.invariant-loop-dot
invariant-loop-dot l = (l.number ≡ total (times_in l.vector) (take l.dot-index l.dots)) × (nat_abs l.number ≤ 2 ^ 32 * l.dot-index)
