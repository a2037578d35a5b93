use Rattle.std.proofs.Common.{sym, arith}
use Rattle.std.specs.Int.{IsGcd}
use Rattle.std.proofs.lemmas.Nat.Gcd.{IsGcd-from_zero, IsGcd-from_mod}
use Rattle.form_frac.proofs.Divisors.{gcd_from_IsGcd}
use Rattle.form_frac.proofs.divisor.gcd.Goals as goal

pub loop-lesser-preserved : goal.loop-lesser-preserved
loop-lesser-preserved c g h = c.loop-lesser.invariant g (IsGcd-from_mod _ _ g h)

pub returns-then-lesser-eq0 : goal.returns-then-lesser-eq0
returns-then-lesser-eq0 c =
    let h : IsGcd c.args.a c.args.b c.loop-lesser.greater = c.loop-lesser.invariant _ (IsGcd-from_zero _ _ (omega arith)) in
    record { value = sym (gcd_from_IsGcd _ _ _ h); divides_left = h.0; divides_right = h.1; greatest = h.2 }

pub returns-else-lesser-eq0 : goal.returns-else-lesser-eq0
returns-else-lesser-eq0 c =
    let h : IsGcd c.args.a c.args.b c.gcd_of_small.result = c.loop-lesser.invariant _ (IsGcd-from_mod c.loop-lesser.greater c.loop-lesser.lesser _ (rw c.rest.ensures at c.gcd_of_small.ensures)) in
    record { value = sym (gcd_from_IsGcd _ _ _ h); divides_left = h.0; divides_right = h.1; greatest = h.2 }
