-- Fractions in lowest terms: what changes nothing of them.
use Rattle.std.proofs.Common.{◌≡◌, ℕ, ◌*◌, ◌/◌, ◌<◌, ◌≤◌, ◌⊎◌, inl, inr, ℤ, pos, ◌*ℤ◌, neg_ℤ, nat_abs, not, sym, ◌∙◌, ap, ap₂, subst, mul_comm, mul_assoc, eq-zero-or-pos, le_trans, div-le_self, div-one, mul-one}
use Rattle.std.proofs.Math.Nat.{mul-div-mul_right, mul-div_cancel_left, mul-div_cancel', div-mul_cancel, eq-zero_of_zero-dvd, zero-div, dvd-mul_right}
use Rattle.std.specs.Int.{◌∣◌, is_negative}
use lib.IntN.{*ℤ_comm}
use Rattle.form_frac.specs.Fraction.{Fraction, IsLowest, gcd, signed, reduced, largest, whole, negate}
use Rattle.form_frac.proofs.Divisors.{gcd_is, gcd_from_IsGcd, IsGcd-multiple}
use Rattle.form_frac.proofs.Fractions.{signed_is, signed_times_size, nat_abs-signed, reduced_is, quotients_some, quotients_coprime, times_one}
use Rattle.form_frac.specs.Weight.{brought, product}
use Rattle.form_frac.proofs.Integers.{times_assoc, times_swap, nat_abs-neg, neg_signed, neg_times}

-- the parts of a fraction in lowest terms
pub reduced_parts : (n : ℤ) (d : ℕ) → reduced n d ≡ record { numerator = signed (is_negative n) (nat_abs n / gcd (nat_abs n) d); denominator = d / gcd (nat_abs n) d }
reduced_parts n d = ap (λ (x : ℤ). reduced x d) (sym (signed_is n)) ∙ reduced_is (is_negative n) (nat_abs n) d

pub numerator_back : (n : ℤ) (d : ℕ) → (reduced n d).numerator *ℤ pos (gcd (nat_abs n) d) ≡ n
numerator_back n d =
    let g = gcd (nat_abs n) d in
    ap (λ (f : Fraction). f.numerator *ℤ pos g) (reduced_parts n d)
    ∙ signed_times_size (is_negative n) (nat_abs n / g) g
    ∙ ap (λ x. signed (is_negative n) x) (div-mul_cancel g (gcd_is (nat_abs n) d).0)
    ∙ signed_is n

pub denominator_back : (n : ℤ) (d : ℕ) → (reduced n d).denominator * gcd (nat_abs n) d ≡ d
denominator_back n d =
    let g = gcd (nat_abs n) d in
    ap (λ (f : Fraction). f.denominator * g) (reduced_parts n d) ∙ div-mul_cancel g (gcd_is (nat_abs n) d).1

pub numerator_small : (n : ℤ) (d : ℕ) → nat_abs (reduced n d).numerator ≤ nat_abs n
numerator_small n d =
    let g = gcd (nat_abs n) d in
    subst (λ (x : ℕ). x ≤ nat_abs n) (sym (ap (λ (f : Fraction). nat_abs f.numerator) (reduced_parts n d) ∙ nat_abs-signed (is_negative n) (nat_abs n / g))) (div-le_self (nat_abs n) g)

pub denominator_small : (n : ℤ) (d : ℕ) → (reduced n d).denominator ≤ d
denominator_small n d =
    let g = gcd (nat_abs n) d in
    subst (λ (x : ℕ). x ≤ d) (sym (ap (λ (f : Fraction). f.denominator) (reduced_parts n d))) (div-le_self d g)

pub denominator_some : (n : ℤ) (d : ℕ) → 1 ≤ d → 1 ≤ (reduced n d).denominator
denominator_some n d some = subst (λ (x : ℕ). 1 ≤ x) (sym (ap (λ (f : Fraction). f.denominator) (reduced_parts n d))) (quotients_some (nat_abs n) d some)

pub denominator_divides : (n : ℤ) (d : ℕ) → (reduced n d).denominator ∣ d
denominator_divides n d = subst (λ (x : ℕ). (reduced n d).denominator ∣ x) (denominator_back n d) (dvd-mul_right (reduced n d).denominator (gcd (nat_abs n) d))

pub reduced_lowest : (n : ℤ) (d : ℕ) → 1 ≤ d → nat_abs n ≤ largest → d ≤ largest → IsLowest (reduced n d)
reduced_lowest n d some above below =
    let size : nat_abs (reduced n d).numerator ≡ nat_abs n / gcd (nat_abs n) d =
    ap (λ (f : Fraction). nat_abs f.numerator) (reduced_parts n d) ∙ nat_abs-signed (is_negative n) (nat_abs n / gcd (nat_abs n) d) in
    record {
      is_over_some = denominator_some n d some;
      is_coprime = ap₂ gcd size (ap (λ (f : Fraction). f.denominator) (reduced_parts n d)) ∙ quotients_coprime (nat_abs n) d some;
      is_small_above = le_trans (numerator_small n d) above;
      is_small_below = le_trans (denominator_small n d) below;
    }

-- both parts times a number
pub reduced_scaled : (n : ℤ) (d g : ℕ) → 1 ≤ g → reduced (n *ℤ pos g) (d * g) ≡ reduced n d
reduced_scaled n d g some =
    let b = is_negative n in
    let m = nat_abs n in
    let number : n *ℤ pos g ≡ signed b (m * g) = ap (λ (x : ℤ). x *ℤ pos g) (sym (signed_is n)) ∙ signed_times_size b m g in
    let divisor : gcd (m * g) (d * g) ≡ gcd m d * g = gcd_from_IsGcd (m * g) (d * g) (gcd m d * g) (IsGcd-multiple m d (gcd m d) g (gcd_is m d)) in
    let above : m * g / gcd (m * g) (d * g) ≡ m / gcd m d = ap (λ (x : ℕ). m * g / x) divisor ∙ mul-div-mul_right m (gcd m d) some in
    let below : d * g / gcd (m * g) (d * g) ≡ d / gcd m d = ap (λ (x : ℕ). d * g / x) divisor ∙ mul-div-mul_right d (gcd m d) some in
    ap (λ (x : ℤ). reduced x (d * g)) number
    ∙ reduced_is b (m * g) (d * g)
    ∙ ap₂ (λ (x y : ℕ). record { numerator = signed b x; denominator = y }) above below
    ∙ sym (reduced_parts n d)

-- what is in lowest terms stays as it is
pub lowest_again : (f : Fraction) → IsLowest f → reduced f.numerator f.denominator ≡ f
lowest_again f l =
    reduced_parts f.numerator f.denominator
    ∙ ap₂ (λ (x : ℤ) (y : ℕ). record { numerator = x; denominator = y })
    (ap (λ x. signed (is_negative f.numerator) (nat_abs f.numerator / x)) l.is_coprime ∙ ap (λ x. signed (is_negative f.numerator) x) (div-one (nat_abs f.numerator)) ∙ signed_is f.numerator)
    (ap (λ (x : ℕ). f.denominator / x) l.is_coprime ∙ div-one f.denominator)

-- brought to a number that the denominator divides, it is what its parts were
pub brought_reduced : (n : ℤ) (d k : ℕ) → 1 ≤ d → d ∣ k → brought k (reduced n d) ≡ n *ℤ pos (k / d)
brought_reduced n d k some divides =
    let r = reduced n d in
    let g = gcd (nat_abs n) d in
    let whole_k : k ≡ r.denominator * (g * (k / d)) =
    sym (mul-div_cancel' d divides) ∙ ap (λ (x : ℕ). x * (k / d)) (sym (denominator_back n d)) ∙ mul_assoc r.denominator g (k / d) in
    let factor : k / r.denominator ≡ g * (k / d) =
    ap (λ (x : ℕ). x / r.denominator) whole_k ∙ mul-div_cancel_left (g * (k / d)) (denominator_some n d some) in
    ap (λ x. r.numerator *ℤ pos x) factor
    ∙ sym (times_assoc r.numerator (pos g) (pos (k / d)))
    ∙ ap (λ (x : ℤ). x *ℤ pos (k / d)) (numerator_back n d)

-- ---- products

-- a product isn't changed where one of both was brought to lowest terms before
pub product_reduced : (n m : ℤ) (d e : ℕ) → product (reduced n d) (record { numerator = m; denominator = e }) ≡ reduced (n *ℤ m) (d * e)
product_reduced n m d e = at (eq-zero-or-pos (gcd (nat_abs n) d))
  where
    at : ((gcd (nat_abs n) d ≡ 0) ⊎ (0 < gcd (nat_abs n) d)) → product (reduced n d) (record { numerator = m; denominator = e }) ≡ reduced (n *ℤ m) (d * e)
    at (inl none) =
        let size : nat_abs n ≡ 0 = eq-zero_of_zero-dvd (subst (λ (x : ℕ). x ∣ nat_abs n) none (gcd_is (nat_abs n) d).0) in
        let below : d ≡ 0 = eq-zero_of_zero-dvd (subst (λ (x : ℕ). x ∣ d) none (gcd_is (nat_abs n) d).1) in
        let number : (reduced n d).numerator ≡ n =
        ap (λ (f : Fraction). f.numerator) (reduced_parts n d) ∙ ap (λ x. signed (is_negative n) x) (ap (λ (x : ℕ). x / gcd (nat_abs n) d) size ∙ zero-div (gcd (nat_abs n) d) ∙ sym size) ∙ signed_is n in
        let denominator : (reduced n d).denominator ≡ d =
        ap (λ (f : Fraction). f.denominator) (reduced_parts n d) ∙ ap (λ (x : ℕ). x / gcd (nat_abs n) d) below ∙ zero-div (gcd (nat_abs n) d) ∙ sym below in
        ap₂ (λ (x : ℤ) (y : ℕ). reduced (x *ℤ m) (y * e)) number denominator
    at (inr some) =
        let r = reduced n d in
        let g = gcd (nat_abs n) d in
        let number : (r.numerator *ℤ m) *ℤ pos g ≡ n *ℤ m = times_swap r.numerator m (pos g) ∙ ap (λ (x : ℤ). x *ℤ m) (numerator_back n d) in
        let denominator : r.denominator * e * g ≡ d * e =
        mul_assoc r.denominator e g ∙ ap (λ (x : ℕ). r.denominator * x) (mul_comm e g) ∙ sym (mul_assoc r.denominator g e) ∙ ap (λ (x : ℕ). x * e) (denominator_back n d) in
        sym (reduced_scaled (r.numerator *ℤ m) (r.denominator * e) g some) ∙ ap₂ (λ (x : ℤ) (y : ℕ). reduced x y) number denominator

pub product_swap : (f g : Fraction) → product f g ≡ product g f
product_swap f g = ap₂ (λ (x : ℤ) (y : ℕ). reduced x y) (*ℤ_comm f.numerator g.numerator) (mul_comm f.denominator g.denominator)

pub product_of_reduced : (n m : ℤ) (d e : ℕ) → product (reduced n d) (reduced m e) ≡ reduced (n *ℤ m) (d * e)
product_of_reduced n m d e =
    product_reduced n (reduced m e).numerator d (reduced m e).denominator
    ∙ product_swap (record { numerator = n; denominator = d }) (reduced m e)
    ∙ product_reduced m n e d
    ∙ product_swap (record { numerator = m; denominator = e }) (record { numerator = n; denominator = d })

pub product_product : (c f g : Fraction) → product c (product f g) ≡ product (product c f) g
product_product c f g =
    product_swap c (product f g)
    ∙ product_reduced (f.numerator *ℤ g.numerator) c.numerator (f.denominator * g.denominator) c.denominator
    ∙ ap₂ (λ (x : ℤ) (y : ℕ). reduced x y)
    (*ℤ_comm (f.numerator *ℤ g.numerator) c.numerator ∙ sym (times_assoc c.numerator f.numerator g.numerator))
    (mul_comm (f.denominator * g.denominator) c.denominator ∙ sym (mul_assoc c.denominator f.denominator g.denominator))
    ∙ sym (product_reduced (c.numerator *ℤ f.numerator) g.numerator (c.denominator * f.denominator) g.denominator)

-- ---- the sign

pub negate_reduced : (n : ℤ) (d : ℕ) → negate (reduced n d) ≡ reduced (neg_ℤ n) d
negate_reduced n d =
    let b = is_negative n in
    let g = gcd (nat_abs n) d in
    let turned : neg_ℤ n ≡ signed (not b) (nat_abs n) = ap neg_ℤ (sym (signed_is n)) ∙ neg_signed b (nat_abs n) in
    ap negate (reduced_parts n d)
    ∙ ap (λ (x : ℤ). record { numerator = x; denominator = d / g }) (neg_signed b (nat_abs n / g))
    ∙ sym (ap (λ (x : ℤ). reduced x d) turned ∙ reduced_is (not b) (nat_abs n) d)

pub negate_lowest : (f : Fraction) → IsLowest f → IsLowest (negate f)
negate_lowest f l =
    let size = nat_abs-neg f.numerator in
    record {
      is_over_some = l.is_over_some;
      is_coprime = ap (λ (x : ℕ). gcd x f.denominator) size ∙ l.is_coprime;
      is_small_above = subst (λ (x : ℕ). x ≤ largest) (sym size) l.is_small_above;
      is_small_below = l.is_small_below;
    }

pub product_negated : (f g : Fraction) → product f (negate g) ≡ negate (product f g)
product_negated f g =
    product_swap f (negate g)
    ∙ ap₂ (λ (x : ℤ) (y : ℕ). reduced x y) (neg_times g.numerator f.numerator ∙ ap neg_ℤ (*ℤ_comm g.numerator f.numerator)) (mul_comm g.denominator f.denominator)
    ∙ sym (negate_reduced (f.numerator *ℤ g.numerator) (f.denominator * g.denominator))

pub product_one : (f : Fraction) → IsLowest f → product (whole (pos 1)) f ≡ f
product_one f l =
    product_swap (whole (pos 1)) f ∙ ap₂ (λ (x : ℤ) (y : ℕ). reduced x y) (times_one f.numerator) (mul-one f.denominator) ∙ lowest_again f l
