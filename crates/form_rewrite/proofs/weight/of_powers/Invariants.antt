use Rattle.std.proofs.Common.{◌≡◌, ◌≤◌, ◌*◌, ◌^◌, map, nat_abs, sum, take}
use Rattle.form_rewrite.proofs.weight.of_powers.Given as goal

abbrev pub invariant-loop-power : goal.invariant-loop-power
invariant-loop-power l = (l.weight ≡ sum (map (λ p. nat_abs p.exponent) (take l.power-index l.powers))) × (l.weight ≤ 2 ^ 32 * l.power-index)
