use Rattle.std.proofs.Common.{◌≡◌, take, nat_abs}
use Rattle.std.specs.Prelude.{sum_by}
use Rattle.form_reach.proofs.reach.degree_of_dots.Given as goal

-- the sum of those so far
abbrev pub invariant-loop-dot : goal.invariant-loop-dot
invariant-loop-dot l = l.sum ≡ sum_by (λ p. nat_abs p.exponent) (take l.dot-index l.dots)
