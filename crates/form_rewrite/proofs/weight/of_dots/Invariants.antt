use Rattle.std.proofs.Common.{◌≡◌, ◌≤◌, ◌*◌, ◌^◌, map, nat_abs, sum, take}
use Rattle.form_rewrite.proofs.weight.of_dots.Given as goal

abbrev pub invariant-loop-dot : goal.invariant-loop-dot
invariant-loop-dot l = (l.weight ≡ sum (map (λ d. nat_abs d.exponent) (take l.dot-index l.dots))) × (l.weight ≤ 2 ^ 32 * l.dot-index)
