-- Sums and products that stay in range.
use Rattle.std.proofs.Common.{◌≡◌, ℕ, ◌+◌, ◌*◌, ◌/◌, ◌≤◌, Some, ℤ, pos, ◌+ℤ◌, ◌*ℤ◌, nat_abs, nat_le, ◌&&◌, refl, sym, ◌∙◌, ap, ap₂, subst, le_trans, le-leb, mul_assoc, le-mul_of_pos_right, arith}
use Rattle.std.proofs.Math.Nat.{mul-div_cancel_left, mul-div_cancel', pos_of_dvd_of_pos}
use Rattle.std.proofs.lemmas.Nat.Gcd.{le_of_dvd}
use Rattle.std.specs.Int.{◌∣◌}
use Rattle.form_frac.specs.Fraction.{Fraction, IsLowest, lcm, reduced, largest, is_in_range, add, multiply}
use Rattle.form_frac.proofs.Divisors.{quotient_dvd}
use Rattle.form_frac.proofs.Fractions.{in_range-reduced, some_if}
use Rattle.form_frac.proofs.Values.{lcm_left, lcm_right, lcm_least}
use Rattle.form_frac.specs.Weight.{brought, product}
use Rattle.form_frac.proofs.Integers.{times_assoc, sum_times, nat_abs-times, nat_abs-sum}
use Rattle.form_frac.proofs.Reduced.{reduced_scaled}

-- ---- brought to one number, and further to a multiple of it

pub quotient_some : (d k : ℕ) → d ∣ k → 1 ≤ k → 1 ≤ k / d
quotient_some d k divides some = pos_of_dvd_of_pos (quotient_dvd k d divides) some

pub quotient_further : (d l k : ℕ) → 1 ≤ d → d ∣ l → l ∣ k → k / d ≡ l / d * (k / l)
quotient_further d l k some p q =
    let whole_k : k ≡ d * (l / d * (k / l)) =
    sym (mul-div_cancel' l q) ∙ ap (λ (x : ℕ). x * (k / l)) (sym (mul-div_cancel' d p)) ∙ mul_assoc d (l / d) (k / l) in
    ap (λ (x : ℕ). x / d) whole_k ∙ mul-div_cancel_left (l / d * (k / l)) some

pub brought_further : (f : Fraction) (l k : ℕ) → 1 ≤ f.denominator → f.denominator ∣ l → l ∣ k → brought k f ≡ brought l f *ℤ pos (k / l)
brought_further f l k some p q =
    ap (λ x. f.numerator *ℤ pos x) (quotient_further f.denominator l k some p q) ∙ sym (times_assoc f.numerator (pos (l / f.denominator)) (pos (k / l)))

-- a multiple is no smaller
pub size_further : (y z : ℤ) (q : ℕ) → 1 ≤ q → z ≡ y *ℤ pos q → nat_abs y ≤ nat_abs z
size_further y z q some e = subst (λ (x : ℕ). nat_abs y ≤ x) (sym (ap nat_abs e ∙ nat_abs-times y (pos q))) (le-mul_of_pos_right (nat_abs y) some)

-- ---- sums

add_in_range : (a b : Fraction) (l : ℕ) → lcm a.denominator b.denominator ≡ l → l ≤ largest → nat_abs (brought l a) ≤ largest → nat_abs (brought l b) ≤ largest →
    nat_abs (brought l a +ℤ brought l b) ≤ largest → add a b ≡ Some (reduced (brought l a +ℤ brought l b) l)
unfolding add
add_in_range a b l e below left right both = rw (e, le-leb l largest below, le-leb _ largest left, le-leb _ largest right, le-leb _ largest both) refl

-- the sum of two fractions that are in range together over a number that their denominators divide
pub add_within : (a b : Fraction) (k : ℕ) → IsLowest a → IsLowest b → a.denominator ∣ k → b.denominator ∣ k → 1 ≤ k → k ≤ largest →
    nat_abs (brought k a) + nat_abs (brought k b) ≤ largest → add a b ≡ Some (reduced (brought k a +ℤ brought k b) k)
add_within a b k la lb pa pb some below sizes =
    let l = lcm a.denominator b.denominator in
    let q = k / l in
    let divides : l ∣ k = lcm_least a.denominator b.denominator k pa pb in
    let some_q : 1 ≤ q = quotient_some l k divides some in
    let left : brought k a ≡ brought l a *ℤ pos q = brought_further a l k la.is_over_some (lcm_left a.denominator b.denominator) divides in
    let right : brought k b ≡ brought l b *ℤ pos q = brought_further b l k lb.is_over_some (lcm_right a.denominator b.denominator) divides in
    let both : brought k a +ℤ brought k b ≡ (brought l a +ℤ brought l b) *ℤ pos q = ap₂ (λ (x y : ℤ). x +ℤ y) left right ∙ sym (sum_times (brought l a) (brought l b) (pos q)) in
    let small : nat_abs (brought k a +ℤ brought k b) ≤ largest = le_trans (nat_abs-sum (brought k a) (brought k b)) sizes in
    let small_left : nat_abs (brought k a) ≤ largest = omega (arith, sizes) in
    let small_right : nat_abs (brought k b) ≤ largest = omega (arith, sizes) in
    add_in_range a b l refl (le_trans (le_of_dvd some divides) below)
    (le_trans (size_further (brought l a) (brought k a) q some_q left) small_left)
    (le_trans (size_further (brought l b) (brought k b) q some_q right) small_right)
    (le_trans (size_further (brought l a +ℤ brought l b) (brought k a +ℤ brought k b) q some_q both) small)
    ∙ ap Some (sym (reduced_scaled (brought l a +ℤ brought l b) l q some_q) ∙ ap₂ (λ (x : ℤ) (y : ℕ). reduced x y) (sym both) (mul-div_cancel' l divides))

-- ---- products

pub multiply_within : (a b : Fraction) → nat_abs a.numerator * nat_abs b.numerator ≤ largest → a.denominator * b.denominator ≤ largest → multiply a b ≡ Some (product a b)
unfolding multiply
multiply_within a b above below =
    in_range-reduced (a.numerator *ℤ b.numerator) (a.denominator * b.denominator) (subst (λ (x : ℕ). x ≤ largest) (sym (nat_abs-times a.numerator b.numerator)) above) below

pub multiply_made : (a b p : Fraction) → multiply a b ≡ Some p → p ≡ product a b
unfolding multiply
multiply_made a b p e = let r = product a b in (some_if (is_in_range r.numerator && nat_le r.denominator largest) r p (sym e)).1
