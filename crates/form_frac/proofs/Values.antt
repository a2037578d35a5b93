-- What reckoning with fractions does to their values.
use Rattle.std.proofs.Common.{◌≡◌, ℕ, zero, suc, ◌*◌, ◌/◌, ◌<◌, ◌≤◌, ℤ, pos, negsuc, ◌+ℤ◌, ◌*ℤ◌, neg_ℤ, nat_abs, nat_le, ◌&&◌, Option, Some, None, Ok, ok_or, refl, sym, ◌∙◌, ap, ap₂, subst, arith, mul_comm, mul_assoc, eq-zero-or-pos, ◌⊎◌, inl, inr, zero-mul}
use Rattle.std.proofs.Math.Nat.{div-mul_cancel, mul-div_cancel', dvd-mul_right, dvd-mul_left, mul-dvd-mul_left, dvd_of_mul-dvd-mul_left, eq-zero_of_zero-dvd}
use Rattle.std.proofs.lemmas.Nat.Gcd.{dvd-zero, IsGcd-swap}
use Rattle.std.proofs.lemmas.Int.{ints}
use borrow.Author.Differences.{sum_is_lem}
use lib.IntN.{neg_ℤ-neg_ℤ, *ℤ-negsuc}
use Rattle.std.specs.Int.{◌∣◌, is_negative}
use Rattle.form_frac.proofs.Divisors.{gcd_is, coprime_quotients, dvd_from_product}
use Rattle.form_frac.proofs.Fractions.{signed_is, signed_times_size, nat_abs-signed, reduced_is, quotients_coprime, add_is, common, left_factor, right_factor, left_brought, right_brought, some_if}
use Rattle.form_frac.specs.Fraction.{Fraction, IsLowest, HasValue, gcd, lcm, signed, reduced, in_range, is_in_range, largest, make, add, multiply}
use Rattle.form_frac.specs.declared.frac_error.FracError.TheVariants.{Overflow}

-- ---- lowest terms

pub value_of_reduced : (n : ℤ) (d : ℕ) → HasValue (reduced n d) n (pos d)
value_of_reduced n d =
    let b = is_negative n in
    let g = gcd (nat_abs n) d in
    let divides = gcd_is (nat_abs n) d in
    let e : reduced n d ≡ record { numerator = signed b (nat_abs n / g); denominator = d / g } = ap (λ (x : ℤ). reduced x d) (sym (signed_is n)) ∙ reduced_is b (nat_abs n) d in
    let crosswise : nat_abs n / g * d ≡ nat_abs n * (d / g) =
    ap (λ (x : ℕ). nat_abs n / g * x) (sym (mul-div_cancel' g divides.1)) ∙ sym (mul_assoc (nat_abs n / g) g (d / g)) ∙ ap (λ (x : ℕ). x * (d / g)) (div-mul_cancel g divides.0) in
    rw e (signed_times_size b (nat_abs n / g) d ∙ ap (λ x. signed b x) crosswise ∙ sym (signed_times_size b (nat_abs n) (d / g)) ∙ ap (λ (x : ℤ). x *ℤ pos (d / g)) (signed_is n))

pub reduced_coprime : (n : ℤ) (d : ℕ) → 1 ≤ d → gcd (nat_abs (reduced n d).numerator) (reduced n d).denominator ≡ 1
reduced_coprime n d some =
    let b = is_negative n in
    let e = ap (λ (x : ℤ). reduced x d) (sym (signed_is n)) ∙ reduced_is b (nat_abs n) d in
    rw (e, nat_abs-signed) (quotients_coprime (nat_abs n) d some)

-- ---- the least common multiple

pub lcm_left : (a b : ℕ) → a ∣ lcm a b
unfolding lcm
lcm_left a b = dvd-mul_right a (b / gcd a b)

pub lcm_right : (a b : ℕ) → b ∣ lcm a b
unfolding lcm
lcm_right a b =
    let g = gcd a b in
    let turned : a * (b / g) ≡ a / g * b =
    ap (λ (x : ℕ). x * (b / g)) (sym (div-mul_cancel g (gcd_is a b).0)) ∙ mul_assoc (a / g) g (b / g) ∙ ap (λ (x : ℕ). a / g * x) (mul-div_cancel' g (gcd_is a b).1) in
    subst (λ (x : ℕ). b ∣ x) (sym turned) (dvd-mul_left b (a / g))

pub lcm_least : (a b m : ℕ) → a ∣ m → b ∣ m → lcm a b ∣ m
unfolding lcm
lcm_least a b m p q = at (eq-zero-or-pos (gcd a b))
  where
    at : ((gcd a b ≡ 0) ⊎ (0 < gcd a b)) → a * (b / gcd a b) ∣ m
    at (inl e) =
        let none : a ≡ 0 = eq-zero_of_zero-dvd (subst (λ (x : ℕ). x ∣ a) e (gcd_is a b).0) in
        let nothing : m ≡ 0 = eq-zero_of_zero-dvd (subst (λ (x : ℕ). x ∣ m) none p) in
        subst (λ (x : ℕ). a * (b / gcd a b) ∣ x) (sym nothing) (dvd-zero (a * (b / gcd a b)))
    at (inr some) =
        let g = gcd a b in
        let d = gcd_is a b in
        let whole_m : m ≡ a * (m / a) = sym (mul-div_cancel' a p) in
        let split : m ≡ g * (a / g * (m / a)) = whole_m ∙ ap (λ (x : ℕ). x * (m / a)) (sym (mul-div_cancel' g d.0)) ∙ mul_assoc g (a / g) (m / a) in
        let scaled : g * (b / g) ∣ g * (a / g * (m / a)) = subst (λ (x : ℕ). g * (b / g) ∣ x) split (subst (λ (x : ℕ). x ∣ m) (sym (mul-div_cancel' g d.1)) q) in
        let divides : b / g ∣ m / a = dvd_from_product (b / g) (a / g) (m / a) (IsGcd-swap _ _ _ (coprime_quotients a b g some d)) (dvd_of_mul-dvd-mul_left (b / g) some scaled) in
        subst (λ (x : ℕ). a * (b / g) ∣ x) (sym whole_m) (mul-dvd-mul_left (b / g) a divides)

-- ---- sums and products

found_ok : (o : Option Fraction) (f : Fraction) → ok_or o Overflow ≡ Ok f → o ≡ Some f
found_ok None f e = cc
found_ok (Some g) f e = cc

found_in_range : (r f : Fraction) → in_range r ≡ Some f → f ≡ r
found_in_range r f e = (some_if (is_in_range r.numerator && nat_le r.denominator largest) r f (sym e)).1

pub value_of_product : (f g p : Fraction) → multiply f g ≡ Some p → HasValue p (f.numerator *ℤ g.numerator) (pos (f.denominator * g.denominator))
unfolding multiply
value_of_product f g p e =
    rw (found_in_range (reduced (f.numerator *ℤ g.numerator) (f.denominator * g.denominator)) p e) (value_of_reduced (f.numerator *ℤ g.numerator) (f.denominator * g.denominator))

times_twice : (z : ℤ) (m n : ℕ) → z *ℤ pos (m * n) ≡ (z *ℤ pos m) *ℤ pos n
times_twice z m n =
    let p = is_negative z in
    let k = nat_abs z in
    ap (λ (x : ℤ). x *ℤ pos (m * n)) (sym (signed_is z))
    ∙ signed_times_size p k (m * n)
    ∙ ap (λ x. signed p x) (sym (mul_assoc k m n))
    ∙ sym (signed_times_size p (k * m) n)
    ∙ ap (λ (x : ℤ). x *ℤ pos n) (sym (signed_times_size p k m) ∙ ap (λ (x : ℤ). x *ℤ pos m) (signed_is z))

times_sum : (y z : ℤ) (n : ℕ) → (y +ℤ z) *ℤ pos n ≡ y *ℤ pos n +ℤ z *ℤ pos n
times_sum y z n =
    let sum = ap (λ (x : ℕ). x * n) (sum_is_lem y z) in
    omega (arith, ints, sum)

negated_twice : (z : ℤ) (n : ℕ) → neg_ℤ (neg_ℤ z *ℤ pos n) ≡ z *ℤ pos n
negated_twice (pos zero) n = rw zero-mul refl
negated_twice (pos (suc m)) n = neg_ℤ-neg_ℤ (pos (suc m * n))
negated_twice (negsuc m) n = refl

pub value_of_sum : (f h s : Fraction) → IsLowest f → IsLowest h → add f h ≡ Some s →
    HasValue s (f.numerator *ℤ pos h.denominator +ℤ h.numerator *ℤ pos f.denominator) (pos (f.denominator * h.denominator))
value_of_sum f h s l m e =
    let sum = left_brought f h +ℤ right_brought f h in
    let g = gcd f.denominator h.denominator in
    let d = gcd_is f.denominator h.denominator in
    let is_reduced = (some_if _ (reduced sum (common f h)) s (sym e ∙ add_is f h l m)).1 in
    let value : HasValue s sum (pos (common f h)) = rw is_reduced (value_of_reduced sum (common f h)) in
    let over : f.denominator * h.denominator ≡ common f h * g =
    ap (λ (x : ℕ). f.denominator * x) (sym (div-mul_cancel g d.1)) ∙ sym (mul_assoc f.denominator (left_factor f h) g) in
    let left : left_brought f h *ℤ pos g ≡ f.numerator *ℤ pos h.denominator =
    sym (times_twice f.numerator (left_factor f h) g) ∙ ap (λ x. f.numerator *ℤ pos x) (div-mul_cancel g d.1) in
    let right : right_brought f h *ℤ pos g ≡ h.numerator *ℤ pos f.denominator =
    sym (times_twice h.numerator (right_factor f h) g) ∙ ap (λ x. h.numerator *ℤ pos x) (div-mul_cancel g d.0) in
    ap (λ x. s.numerator *ℤ pos x) over
    ∙ times_twice s.numerator (common f h) g
    ∙ ap (λ (x : ℤ). x *ℤ pos g) value
    ∙ sym (times_twice sum s.denominator g)
    ∙ ap (λ x. sum *ℤ pos x) (mul_comm s.denominator g)
    ∙ times_twice sum g s.denominator
    ∙ ap (λ (x : ℤ). x *ℤ pos s.denominator) (times_sum (left_brought f h) (right_brought f h) g ∙ ap₂ (λ x y. x +ℤ y) left right)

pub value_of_made : (n d : ℤ) (f : Fraction) → make n d ≡ Ok f → HasValue f n d
unfolding make
value_of_made n (pos zero) f e = cc
value_of_made n (pos (suc d)) f e = rw (found_in_range (reduced n (suc d)) f (found_ok (in_range (reduced n (suc d))) f e)) (value_of_reduced n (suc d))
value_of_made n (negsuc d) f e =
    let same = found_in_range (reduced (neg_ℤ n) (suc d)) f (found_ok (in_range (reduced (neg_ℤ n) (suc d))) f e) in
    let value : HasValue f (neg_ℤ n) (pos (suc d)) = rw same (value_of_reduced (neg_ℤ n) (suc d)) in
    *ℤ-negsuc f.numerator d ∙ ap (λ (x : ℤ). neg_ℤ x) value ∙ negated_twice n f.denominator
