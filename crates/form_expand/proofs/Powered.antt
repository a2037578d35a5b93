-- Powers of fractions, factor by factor.
use Rattle.std.proofs.Common.{◌≡◌, ℕ, zero, suc, ◌+◌, ◌-◌, ◌/◌, ◌%◌, ◌≤◌, ℤ, pos, negsuc, nat_abs, refl, sym, ap, ◌∙◌, arith}
use Rattle.std.specs.Prelude.{Option, Some, None, option_and_then, Ok, Err}
use Rattle.std.specs.Option.{ok_or}
use Rattle.form_frac.specs.declared.frac_error.FracError.{FracError}
use Rattle.form_frac.specs.declared.frac_error.FracError.TheVariants.{Overflow}
use Rattle.form_frac.specs.Fraction.{Fraction, whole, divisor_from, gcd, reduced, multiply}
use Rattle.form_expand.specs.Numbers.{raised}

raised_step : (f : Fraction) (k : ℕ) → raised f (suc (suc k)) ≡ option_and_then (λ p. multiply p f) (raised f (suc k))
unfolding raised
raised_step f k = refl

-- 1 and -1: every second power is 1

abbrev Repeats : Fraction → Type 0
Repeats f = (multiply (whole (pos 1)) f ≡ Some f) × (multiply f f ≡ Some (whole (pos 1)))

one_repeats : (n : ℤ) → nat_abs n ≡ 1 → Repeats (whole n)
unfolding multiply reduced gcd divisor_from
one_repeats (pos zero) e = absurd (omega arith)
one_repeats (pos (suc zero)) e = (refl, refl)
one_repeats (pos (suc (suc k))) e = absurd (omega arith)
one_repeats (negsuc zero) e = (refl, refl)
one_repeats (negsuc (suc k)) e = absurd (omega arith)

one_pairs : (f : Fraction) → Repeats f → (j : ℕ) → (raised f (suc (j + j)) ≡ Some f) × (raised f (suc (suc (j + j))) ≡ Some (whole (pos 1)))
unfolding raised
one_pairs f repeats zero = (refl, repeats.1)
one_pairs f repeats (suc j) =
    let next : suc j + suc j ≡ suc (suc (j + j)) = omega arith in
    let odd = raised_step f (suc (j + j)) ∙ ap (option_and_then (λ p. multiply p f)) (one_pairs f repeats j).1 ∙ repeats.0 in
    rw next (odd, raised_step f (suc (suc (j + j))) ∙ ap (option_and_then (λ p. multiply p f)) odd ∙ repeats.1)

module _ (n : ℤ) (one : nat_abs n ≡ 1) (k : ℕ) (some : 1 ≤ k) where
  pub one_even : k % 2 ≡ 0 → raised (whole n) k ≡ Some (whole (pos 1))
  one_even even =
      let j = (k / 2) - 1 in
      let same : k ≡ suc (suc (j + j)) = omega (arith, some, even) in
      rw same (one_pairs (whole n) (one_repeats n one) j).1

  pub one_odd : ¬ (k % 2 ≡ 0) → raised (whole n) k ≡ Some (whole n)
  one_odd odd =
      let j = k / 2 in
      let same : k ≡ suc (j + j) = omega (arith, some, odd) in
      rw same (one_pairs (whole n) (one_repeats n one) j).0

-- a further factor
pub raised_more : (f p : Fraction) (k : ℕ) → 1 ≤ k → raised f k ≡ Some p → raised f (k + 1) ≡ multiply p f
raised_more f p zero h e = absurd (omega arith)
raised_more f p (suc k) h e =
    let next : suc k + 1 ≡ suc (suc k) = omega arith in
    rw next (raised_step f k ∙ ap (λ o. option_and_then (λ q. multiply q f) o) e)

stopped_for : (f : Fraction) (k n : ℕ) → raised f (suc k) ≡ None → raised f (suc (k + n)) ≡ None
stopped_for f k zero e = let same : k + 0 ≡ k = omega arith in rw same e
stopped_for f k (suc n) e =
    let next : k + suc n ≡ suc (k + n) = omega arith in
    rw next (raised_step f (k + n) ∙ ap (λ o. option_and_then (λ q. multiply q f) o) (stopped_for f k n e))

-- behind an overflow there is none
pub raised_stopped : (f : Fraction) (k power : ℕ) → 1 ≤ k → k ≤ power → raised f k ≡ None → raised f power ≡ None
raised_stopped f zero power h le e = absurd (omega arith)
raised_stopped f (suc k) power h le e = let all : power ≡ suc (k + (power - suc k)) = omega arith in rw all (stopped_for f k (power - suc k) e)

ok_some : {T E : Type 0} (o : Option T) (e : E) (x : T) → Ok x ≡ ok_or o e → o ≡ Some x
ok_some None e x h = cc
ok_some (Some y) e x h = cc

err_none : {T E : Type 0} (o : Option T) (e d : E) → Err d ≡ ok_or o e → (o ≡ None) × (d ≡ e)
err_none None e d h = (refl, cc)
err_none (Some y) e d h = cc

-- a further factor was multiplied in, or overflows

pub raised_made : (f p q : Fraction) (k : ℕ) → 1 ≤ k → raised f k ≡ Some p → Ok q ≡ ok_or (multiply p f) Overflow → raised f (k + 1) ≡ Some q
raised_made f p q k h e made = raised_more f p k h e ∙ ok_some (multiply p f) Overflow q made

pub raised_unmade : (f p : Fraction) (k power : ℕ) (d : FracError) → 1 ≤ k → k + 1 ≤ power → raised f k ≡ Some p → Err d ≡ ok_or (multiply p f) Overflow → Err d ≡ ok_or (raised f power) Overflow
raised_unmade f p k power d h le e unmade =
    let u = err_none (multiply p f) Overflow d unmade in
    let none = raised_stopped f (k + 1) power (omega arith) le (raised_more f p k h e ∙ u.0) in
    rw (none, u.1) refl

-- the whole power was made

pub raised_all : (f p : Fraction) (k power : ℕ) → k ≡ power → raised f k ≡ Some p → Ok p ≡ ok_or (raised f power) Overflow
raised_all f p k power same e = let all : raised f power ≡ Some p = ap (raised f) (sym same) ∙ e in rw all refl
