-- What is reckoned is in lowest terms, and a product of what isn't 0 isn't 0.
use Rattle.std.proofs.Common.{◌≡◌, ℕ, zero, suc, ◌*◌, ◌/◌, ◌<◌, ◌≤◌, ◌==◌, not, ◌&&◌, ℤ, pos, negsuc, ◌+ℤ◌, ◌*ℤ◌, neg_ℤ, nat_abs, nat_le, false, Option, Some, None, Ok, ok_or, sym, ap, subst, ◌∙◌, refl, arith, leb-true, ne_eqb, mul-pos}
use Rattle.std.specs.Int.{is_negative}
use Rattle.std.proofs.lemmas.Bool.{and_parts, eqb-false}
use Rattle.std.proofs.lemmas.Option.{same_Some, none-some}
use Rattle.std.proofs.Math.Nat.{pos_of_dvd_of_pos}
use mathlib.Core.Bool.{beq}
use Rattle.form_frac.specs.Fraction.{Fraction, IsLowest, is_zero, is_in_range, largest, gcd, signed, in_range, reduced, whole, make, add, multiply, negate, reciprocal}
use Rattle.form_frac.specs.declared.frac_error.FracError.TheVariants.{Overflow}
use Rattle.form_frac.proofs.Divisors.{gcd_is, quotient_dvd}
use Rattle.form_frac.proofs.Fractions.{signed_is, nat_abs-signed, reduced_is, quotients_some, product_is, some_if, in_range-reduced, gcd_swap, common, left_brought, right_brought, add_is, common_some, whole_is_lowest}
use Rattle.form_frac.proofs.Values.{reduced_coprime}

-- a coefficient of a term: in lowest terms, and not 0
abbrev pub IsCoefficient : Fraction → Type 0
IsCoefficient f = IsLowest f × (is_zero f ≡ false)

-- ---- 0 and what isn't 0

pub size_some : (f : Fraction) → is_zero f ≡ false → 0 < nat_abs f.numerator
size_some f e = omega (arith, eqb-false (nat_abs f.numerator) 0 e)

there_from : (f : Fraction) → 0 < nat_abs f.numerator → is_zero f ≡ false
there_from f some = ne_eqb (nat_abs f.numerator) 0 (λ e. omega (arith, some, e))

-- ---- what is in range

in_lowest : (r f : Fraction) → in_range r ≡ Some f → 1 ≤ r.denominator → gcd (nat_abs r.numerator) r.denominator ≡ 1 → IsLowest f
in_lowest r f e some coprime =
    let found = some_if (is_in_range r.numerator && nat_le r.denominator largest) r f (sym e) in
    let small = and_parts (is_in_range r.numerator) (nat_le r.denominator largest) found.0 in
    subst IsLowest (sym found.1) (record {
      is_over_some = some;
      is_coprime = coprime;
      is_small_above = leb-true (nat_abs r.numerator) largest small.0;
      is_small_below = leb-true r.denominator largest small.1;
    })

in_there : (r f : Fraction) → in_range r ≡ Some f → 0 < nat_abs r.numerator → is_zero f ≡ false
in_there r f e some =
    let found = some_if (is_in_range r.numerator && nat_le r.denominator largest) r f (sym e) in
    subst (λ (x : Fraction). is_zero x ≡ false) (sym found.1) (there_from r some)

module _ (z : ℤ) (d : ℕ) where
  parts : reduced z d ≡ record { numerator = signed (is_negative z) (nat_abs z / gcd (nat_abs z) d); denominator = d / gcd (nat_abs z) d }
  parts = ap (λ (x : ℤ). reduced x d) (sym (signed_is z)) ∙ reduced_is (is_negative z) (nat_abs z) d

  over_some : 1 ≤ d → 1 ≤ (reduced z d).denominator
  over_some some = subst (λ (x : Fraction). 1 ≤ x.denominator) (sym parts) (quotients_some (nat_abs z) d some)

  above_some : 0 < nat_abs z → 0 < nat_abs (reduced z d).numerator
  above_some some =
      subst (λ (x : Fraction). 0 < nat_abs x.numerator) (sym parts)
      (subst (λ (n : ℕ). 0 < n) (sym (nat_abs-signed (is_negative z) (nat_abs z / gcd (nat_abs z) d)))
      (pos_of_dvd_of_pos (quotient_dvd (nat_abs z) (gcd (nat_abs z) d) (gcd_is (nat_abs z) d).0) some))

  pub reduced_lowest : (f : Fraction) → 1 ≤ d → in_range (reduced z d) ≡ Some f → IsLowest f
  reduced_lowest f some e = in_lowest (reduced z d) f e (over_some some) (reduced_coprime z d some)

  pub reduced_there : (f : Fraction) → 0 < nat_abs z → in_range (reduced z d) ≡ Some f → is_zero f ≡ false
  reduced_there f some e = in_there (reduced z d) f e (above_some some)

-- ---- numbers

pub one_is_coefficient : IsCoefficient (whole (pos 1))
one_is_coefficient = (whole_is_lowest (pos 1) (omega arith), refl)

pub zero_is_lowest : IsLowest (whole (pos 0))
zero_is_lowest = whole_is_lowest (pos 0) (omega arith)

found_ok : (o : Option Fraction) (f : Fraction) → ok_or o Overflow ≡ Ok f → o ≡ Some f
found_ok None f e = absurd (cc)
found_ok (Some g) f e = cc

pub made_lowest : (n d : ℤ) (f : Fraction) → make n d ≡ Ok f → IsLowest f
unfolding make
made_lowest n (pos zero) f e = absurd (cc)
made_lowest n (pos (suc d)) f e = reduced_lowest n (suc d) f (omega arith) (found_ok (in_range (reduced n (suc d))) f e)
made_lowest n (negsuc d) f e = reduced_lowest (neg_ℤ n) (suc d) f (omega arith) (found_ok (in_range (reduced (neg_ℤ n) (suc d))) f e)

-- ---- products and sums

size_of_product : (x y : ℤ) → nat_abs (x *ℤ y) ≡ nat_abs x * nat_abs y
size_of_product x y = ap nat_abs (product_is x y) ∙ nat_abs-signed (not (beq (is_negative x) (is_negative y))) (nat_abs x * nat_abs y)

pub product_is_coefficient : (a b p : Fraction) → IsCoefficient a → IsCoefficient b → multiply a b ≡ Some p → IsCoefficient p
unfolding multiply
product_is_coefficient a b p h k e =
    let some : 0 < nat_abs a.numerator * nat_abs b.numerator = mul-pos (size_some a h.1) (size_some b k.1) in (
      reduced_lowest (a.numerator *ℤ b.numerator) (a.denominator * b.denominator) p (mul-pos h.0.is_over_some k.0.is_over_some) e,
      reduced_there (a.numerator *ℤ b.numerator) (a.denominator * b.denominator) p (subst (λ (n : ℕ). 0 < n) (sym (size_of_product a.numerator b.numerator)) some) e,
    )

pub sum_is_lowest : (a b s : Fraction) → IsLowest a → IsLowest b → add a b ≡ Some s → IsLowest s
sum_is_lowest a b s h k e =
    let d : ℕ = common a b in
    let x : ℤ = left_brought a b in
    let y : ℤ = right_brought a b in
    let found = some_if (nat_le d largest && (is_in_range x && (is_in_range y && is_in_range (x +ℤ y)))) (reduced (x +ℤ y) d) s (sym e ∙ add_is a b h k) in
    let first = and_parts (nat_le d largest) (is_in_range x && (is_in_range y && is_in_range (x +ℤ y))) found.0 in
    let second = and_parts (is_in_range x) (is_in_range y && is_in_range (x +ℤ y)) first.1 in
    let third = and_parts (is_in_range y) (is_in_range (x +ℤ y)) second.1 in
    reduced_lowest (x +ℤ y) d s (common_some a b h k)
    (in_range-reduced (x +ℤ y) d (leb-true (nat_abs (x +ℤ y)) largest third.1) (leb-true d largest first.0) ∙ ap (λ (f : Fraction). Some f) (sym found.1))

-- ---- with another sign, and upside down

size_negated : (z : ℤ) → nat_abs (neg_ℤ z) ≡ nat_abs z
size_negated (pos zero) = refl
size_negated (pos (suc n)) = refl
size_negated (negsuc n) = refl

pub negated_is_coefficient : (f : Fraction) → IsCoefficient f → IsCoefficient (negate f)
negated_is_coefficient f h =
    let same = size_negated f.numerator in
    let l = h.0 in (
      record {
        is_over_some = l.is_over_some;
        is_coprime = ap (λ (n : ℕ). gcd n f.denominator) same ∙ l.is_coprime;
        is_small_above = subst (λ (n : ℕ). n ≤ largest) (sym same) l.is_small_above;
        is_small_below = l.is_small_below;
      },
      ap (λ (n : ℕ). n == 0) same ∙ h.1,
    )

pub reciprocal_is_coefficient : (n : ℤ) (d : ℕ) (g : Fraction) → IsLowest (record { numerator = n; denominator = d }) → reciprocal (record { numerator = n; denominator = d }) ≡ Some g → IsCoefficient g
reciprocal_is_coefficient (pos zero) d g h e = absurd (none-some g e)
reciprocal_is_coefficient (pos (suc n)) d g h e =
    subst IsCoefficient (same_Some (record { numerator = pos d; denominator = suc n }) g e) (
      record { is_over_some = omega arith; is_coprime = gcd_swap d (suc n) ∙ h.is_coprime; is_small_above = h.is_small_below; is_small_below = h.is_small_above },
      there_from (record { numerator = pos d; denominator = suc n }) h.is_over_some,
    )
reciprocal_is_coefficient (negsuc n) d g h e =
    let same : nat_abs (neg_ℤ (pos d)) ≡ d = size_negated (pos d) in
    subst IsCoefficient (same_Some (record { numerator = neg_ℤ (pos d); denominator = suc n }) g e) (
      record {
        is_over_some = omega arith;
        is_coprime = ap (λ (m : ℕ). gcd m (suc n)) same ∙ gcd_swap d (suc n) ∙ h.is_coprime;
        is_small_above = subst (λ (m : ℕ). m ≤ largest) (sym same) h.is_small_below;
        is_small_below = h.is_small_above;
      },
      there_from (record { numerator = neg_ℤ (pos d); denominator = suc n }) (subst (λ (m : ℕ). 0 < m) (sym same) h.is_over_some),
    )
