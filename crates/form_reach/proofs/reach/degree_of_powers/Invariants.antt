use Rattle.std.proofs.Common.{◌≡◌, take, nat_abs}
use Rattle.std.specs.Prelude.{sum_by}
use Rattle.form_reach.proofs.reach.degree_of_powers.Given as goal

-- the sum of those so far
abbrev pub invariant-loop-power : goal.invariant-loop-power
invariant-loop-power l = l.sum ≡ sum_by (λ p. nat_abs p.exponent) (take l.power-index l.powers)
