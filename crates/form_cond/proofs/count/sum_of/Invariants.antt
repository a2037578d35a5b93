use Rattle.std.proofs.Common.{◌≡◌, ◌≤◌, ◌*◌, ◌^◌, nat_abs, take}
use Rattle.form_cond.specs.Condition.{count_of}
use Rattle.form_cond.proofs.count.sum_of.Given as goal

abbrev pub invariant-loop-weighted : goal.invariant-loop-weighted
invariant-loop-weighted l = (l.sum ≡ count_of (take l.weighted-index l.weights) l.term) × (nat_abs l.sum ≤ 2 ^ 80 * l.weighted-index)
