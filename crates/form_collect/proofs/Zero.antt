-- 0 and a coefficient add up to the coefficient.
use Rattle.std.proofs.Common.{◌≡◌, ℕ, zero, suc, ◌*◌, ◌/◌, ◌%◌, ◌≤◌, max, refl, ap, arith, mod-eq_of_lt}
use Rattle.std.specs.Prelude.{Some, ℤ, pos, negsuc, ◌+ℤ◌, ◌*ℤ◌, nat_abs}
use Rattle.std.proofs.Math.Nat.{div_self}
use Rattle.std.proofs.lemmas.Bool.{le-leb}
use Rattle.std.proofs.lemmas.Int.{ints}
use Rattle.form_frac.specs.Fraction.{Fraction, IsLowest, whole, over, reduced, gcd, lcm, divisor_from, largest, add}

one_divides : (n d : ℕ) → divisor_from (suc n) 1 d ≡ 1
unfolding divisor_from
one_divides zero d = let e : d % 1 ≡ 0 = omega arith in rw e refl
one_divides (suc n) d =
    let e : 1 % suc (suc n) ≡ 1 = mod-eq_of_lt (omega arith) in
    rw e (one_divides n d)

gcd_one : (d : ℕ) → 1 ≤ d → gcd 1 d ≡ 1
unfolding gcd
gcd_one zero some = absurd (omega arith)
gcd_one (suc d) some = let e : max 1 (suc d) ≡ suc d = omega arith in rw e (one_divides d (suc d))

lcm_one : (d : ℕ) → 1 ≤ d → lcm 1 d ≡ d
unfolding lcm
lcm_one d some = rw (gcd_one d some) (omega arith)

times_one : (z : ℤ) → z *ℤ pos 1 ≡ z
times_one z = omega (arith, ints)

no_times : (n : ℕ) → pos 0 *ℤ pos n ≡ pos 0
no_times n = omega (arith, ints)

zero_plus : (z : ℤ) → pos 0 +ℤ z ≡ z
zero_plus z = omega (arith, ints)

over_one : (z : ℤ) → over z 1 ≡ z
over_one (pos n) = ap pos (omega arith)
over_one (negsuc n) = let e : suc n / 1 ≡ suc n = omega arith in rw e refl

reduced_again : (f : Fraction) → IsLowest f → reduced f.numerator f.denominator ≡ f
unfolding reduced
reduced_again f l =
    let below : f.denominator / 1 ≡ f.denominator = omega arith in
    rw (l.is_coprime, over_one f.numerator, below) refl

pub zero_add : (f : Fraction) → IsLowest f → add (whole (pos 0)) f ≡ Some f
unfolding add
zero_add f l =
    let once : f.denominator / f.denominator ≡ 1 = div_self l.is_over_some in
    rw (lcm_one f.denominator l.is_over_some, no_times (f.denominator / 1), once, times_one f.numerator, zero_plus f.numerator, le-leb f.denominator largest l.is_small_below, le-leb (nat_abs f.numerator) largest l.is_small_above, le-leb (0 * (f.denominator / 1)) largest (omega arith)) (ap Some (reduced_again f l))
