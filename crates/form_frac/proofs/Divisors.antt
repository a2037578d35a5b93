-- Divisors, Euclid's steps and numbers with no common divisor.
use Rattle.std.proofs.Common.{mul-zero, eq-or-lt_of_le, le_refl, ◌≡◌, ℕ, zero, suc, ◌+◌, ◌*◌, ◌/◌, ◌%◌, ◌<◌, ◌≤◌, max, ◌==◌, Bool, true, false, ◌⊎◌, inl, inr, refl, sym, ◌∙◌, ap, subst, arith, eqb-true, mul_comm, one-mul, mul-one, mod-lt, mod-eq_of_lt, mul-lt-mul_of_pos_right, div-add-mod', eq-zero-or-pos, le_antisymm, le_trans, zero-mul}
use Rattle.std.proofs.Math.Nat.{le-max_left, le-max_right, add-mul-mod_self_left, one-dvd, dvd-mul_right, dvd_of_mul-dvd-mul_left, eq-zero_of_zero-dvd, pos_of_dvd_of_pos, mul-dvd-mul_left, div-mul_cancel, mul-div_cancel'}
use Rattle.std.proofs.lemmas.Nat.Gcd.{dvd_refl, dvd-zero, dvd_trans, le_of_dvd, dvd_of_mod-eq-zero, mod-eq-zero_of_dvd, IsGcd-from_zero, IsGcd-from_mod, IsGcd-swap, same_from_IsGcd}
use Rattle.std.specs.Int.{IsGcd, ◌∣◌}
use Rattle.form_frac.specs.Fraction.{divisor_from, gcd}

-- ---- the greatest number that divides both

-- one step of the search: it stops at a divisor of both
step_stops : (n a b : ℕ) → suc n ∣ a → suc n ∣ b → divisor_from (suc n) a b ≡ suc n
unfolding divisor_from
step_stops n a b h k = rw (mod-eq-zero_of_dvd (suc n) h, mod-eq-zero_of_dvd (suc n) k) refl

-- and goes on where there is none
step_goes_on : (n a b : ℕ) → ((suc n ∣ a) × (suc n ∣ b)) ⊎ (divisor_from (suc n) a b ≡ divisor_from n a b)
unfolding divisor_from
step_goes_on n a b = at (a % suc n == 0) (b % suc n == 0) refl refl
  where
    at : (p q : Bool) → (a % suc n == 0) ≡ p → (b % suc n == 0) ≡ q → ((suc n ∣ a) × (suc n ∣ b)) ⊎ (divisor_from (suc n) a b ≡ divisor_from n a b)
    at true true p q = inl (dvd_of_mod-eq-zero (suc n) (eqb-true _ _ p), dvd_of_mod-eq-zero (suc n) (eqb-true _ _ q))
    at true false p q = inr (rw (p, q) refl)
    at false q' p q = inr (rw p refl)

-- what is found divides both, or is 0
pub IsFound : ℕ → ℕ → ℕ → Type 0
IsFound n a b = (divisor_from n a b ≡ 0) ⊎ ((divisor_from n a b ∣ a) × (divisor_from n a b ∣ b))

pub found : (n a b : ℕ) → IsFound n a b
unfolding divisor_from IsFound
found zero a b = inl refl
found (suc n) a b = at (step_goes_on n a b) (found n a b)
  where
    at : ((suc n ∣ a) × (suc n ∣ b)) ⊎ (divisor_from (suc n) a b ≡ divisor_from n a b) → IsFound n a b → IsFound (suc n) a b
    at (inl h) k = rw (step_stops n a b h.0 h.1) (inr h)
    at (inr e) k = rw e k

-- and no divisor of both is passed
pub not_passed : (n a b d : ℕ) → d ∣ a → d ∣ b → d ≤ n → d ≤ divisor_from n a b
unfolding divisor_from
not_passed zero a b d h k le = le
not_passed (suc n) a b d h k le = at (eq-or-lt_of_le le) (step_goes_on n a b) (not_passed n a b d h k)
  where
    at : ((d ≡ suc n) ⊎ (d < suc n)) → ((suc n ∣ a) × (suc n ∣ b)) ⊎ (divisor_from (suc n) a b ≡ divisor_from n a b) → (d ≤ n → d ≤ divisor_from n a b) → d ≤ divisor_from (suc n) a b
    at p (inl s) rec = rw (step_stops n a b s.0 s.1) le
    at (inl e) q rec = let same = step_stops n a b (subst (λ (x : ℕ). x ∣ a) e h) (subst (λ (x : ℕ). x ∣ b) e k) in rw same le
    at (inr lt) (inr e) rec = rw e (rec (omega arith))

-- ---- Euclid's steps: two numbers have a greatest common divisor, and multiples of both have its multiple

abbrev pub HasGcd : ℕ → ℕ → Type 0
HasGcd a b = (g : ℕ) × (IsGcd a b g × ((k : ℕ) → IsGcd (a * k) (b * k) (g * k)))

mod_of_multiples : (a b k : ℕ) → 0 < b → (a * k) % (b * k) ≡ a % b * k
mod_of_multiples a b k some = at (eq-zero-or-pos k)
  where
    at : ((k ≡ 0) ⊎ (0 < k)) → (a * k) % (b * k) ≡ a % b * k
    at (inl e) = rw (e, mul-zero a, mul-zero b, mul-zero (a % b)) refl
    at (inr more) =
        let split : a * k ≡ (a % b) * k + (b * k) * (a / b) = omega (arith, ap (λ (x : ℕ). x * k) (div-add-mod' a b)) in
        ap (λ (x : ℕ). x % (b * k)) split ∙ add-mul-mod_self_left (a % b * k) (b * k) (a / b) ∙ mod-eq_of_lt (mul-lt-mul_of_pos_right (mod-lt a some) more)

euclid : (fuel a b : ℕ) → b ≤ fuel → HasGcd a b
euclid zero a b le = let e : b ≡ 0 = omega arith in (a, (IsGcd-from_zero a b e, λ k. IsGcd-from_zero (a * k) (b * k) (ap (λ (x : ℕ). x * k) e ∙ zero-mul k)))
euclid (suc fuel) a b le = at (eq-zero-or-pos b) (λ (some : 0 < b). euclid fuel b (a % b) (omega (arith, mod-lt a some)))
  where
    at : ((b ≡ 0) ⊎ (0 < b)) → (0 < b → HasGcd b (a % b)) → HasGcd a b
    at (inl e) rec = (a, (IsGcd-from_zero a b e, λ k. IsGcd-from_zero (a * k) (b * k) (ap (λ (x : ℕ). x * k) e ∙ zero-mul k)))
    at (inr some) rec =
        let h = rec some in
        (h.0, (IsGcd-from_mod a b h.0 h.1.0, λ k. IsGcd-from_mod (a * k) (b * k) (h.0 * k) (rw (mod_of_multiples a b k some) (h.1.1 k))))

pub has_gcd : (a b : ℕ) → HasGcd a b
has_gcd a b = euclid b a b (le_refl b)

pub IsGcd-multiple : (a b g k : ℕ) → IsGcd a b g → IsGcd (a * k) (b * k) (g * k)
IsGcd-multiple a b g k h =
    let s = has_gcd a b in
    subst (λ (x : ℕ). IsGcd (a * k) (b * k) (x * k)) (same_from_IsGcd a b s.0 g s.1.0 h) (s.1.1 k)

-- ---- the number that is searched for is that of Euclid's steps

divisor_le_max : (a b g : ℕ) → 0 < max a b → g ∣ a → g ∣ b → (0 < g) × (g ≤ max a b)
divisor_le_max a b g some h k = at (eq-zero-or-pos a)
  where
    at : ((a ≡ 0) ⊎ (0 < a)) → (0 < g) × (g ≤ max a b)
    at (inr p) = (pos_of_dvd_of_pos h p, le_trans (le_of_dvd p h) (le-max_left a b))
    at (inl e) = let p : 0 < b = omega arith in (pos_of_dvd_of_pos k p, le_trans (le_of_dvd p k) (le-max_right a b))

pub gcd_from_IsGcd : (a b g : ℕ) → IsGcd a b g → gcd a b ≡ g
unfolding gcd IsFound divisor_from
gcd_from_IsGcd a b g h = at (eq-zero-or-pos (max a b)) (found (max a b) a b)
  where
    at : ((max a b ≡ 0) ⊎ (0 < max a b)) → IsFound (max a b) a b → divisor_from (max a b) a b ≡ g
    at (inl e) f =
        let left : a ≡ 0 = omega (arith, le-max_left a b) in
        let right : b ≡ 0 = omega (arith, le-max_right a b) in
        let none : 0 ∣ g = h.2 0 (subst (λ (x : ℕ). 0 ∣ x) (sym left) (dvd-zero 0)) (subst (λ (x : ℕ). 0 ∣ x) (sym right) (dvd-zero 0)) in
        rw e (sym (eq-zero_of_zero-dvd none))
    at (inr some) (inl z) = absurd (omega (arith, not_passed (max a b) a b 1 (one-dvd a) (one-dvd b) some))
    at (inr some) (inr v) =
        let bounds = divisor_le_max a b g some h.0 h.1 in
        le_antisymm (le_of_dvd bounds.0 (h.2 _ v.0 v.1)) (not_passed (max a b) a b g h.0 h.1 bounds.1)

pub gcd_is : (a b : ℕ) → IsGcd a b (gcd a b)
gcd_is a b = let s = has_gcd a b in subst (λ (x : ℕ). IsGcd a b x) (sym (gcd_from_IsGcd a b s.0 s.1.0)) s.1.0

-- ---- numbers with no common divisor but 1

-- a number that divides a product, and has nothing in common with one factor, divides the other
pub dvd_from_product : (a b c : ℕ) → IsGcd a b 1 → a ∣ b * c → a ∣ c
dvd_from_product a b c h k = subst (λ (x : ℕ). a ∣ x) (one-mul c) ((IsGcd-multiple a b 1 c h).2 a (dvd-mul_right a c) k)

pub coprime_parts : (a b c d : ℕ) → IsGcd a b 1 → c ∣ a → d ∣ b → IsGcd c d 1
coprime_parts a b c d h k l = (one-dvd c, one-dvd d, λ e p q. h.2 e (dvd_trans e p k) (dvd_trans e q l))

pub coprime_product : (a b c : ℕ) → IsGcd a b 1 → IsGcd a c 1 → IsGcd a (b * c) 1
coprime_product a b c h k =
    (one-dvd a, one-dvd (b * c), λ d p q. k.2 d p (dvd_from_product d b c (coprime_parts a b d b h p (dvd_refl b)) q))

pub coprime_quotients : (a b g : ℕ) → 0 < g → IsGcd a b g → IsGcd (a / g) (b / g) 1
coprime_quotients a b g some h =
    (one-dvd (a / g), one-dvd (b / g), λ e p q. dvd_of_mul-dvd-mul_left e some (subst (λ (x : ℕ). g * e ∣ x) (sym (mul-one g)) (h.2 (g * e) (multiple e a h.0 p) (multiple e b h.1 q))))
  where
    multiple : (e n : ℕ) → g ∣ n → e ∣ n / g → g * e ∣ n
    multiple e n d p = subst (λ (x : ℕ). g * e ∣ x) (mul-div_cancel' g d) (mul-dvd-mul_left e g p)

pub quotient_dvd : (a g : ℕ) → g ∣ a → a / g ∣ a
quotient_dvd a g d = subst (λ (x : ℕ). a / g ∣ x) (div-mul_cancel g d) (dvd-mul_right (a / g) g)

-- two quotients times both divisors
pub quotients_times : (m n k l : ℕ) → k ∣ m → l ∣ n → m / k * (n / l) * (k * l) ≡ m * n
quotients_times m n k l p q = from_parts (m / k) (n / l) (mul-div_cancel' k p) (mul-div_cancel' l q)
  where
    from_parts : (x y : ℕ) → k * x ≡ m → l * y ≡ n → x * y * (k * l) ≡ m * n
    from_parts x y e f = rw (sym e, sym f) (omega arith)

-- what is left of the parts of a product, once each numerator and the other denominator are divided by what they have in common
pub coprime_crosswise : (a b c d g h : ℕ) → 0 < b → 0 < d → IsGcd a b 1 → IsGcd c d 1 → IsGcd a d g → IsGcd c b h → IsGcd (a / g * (c / h)) (b / h * (d / g)) 1
coprime_crosswise a b c d g h over_b over_d ab cd ad cb =
    let some_g : 0 < g = pos_of_dvd_of_pos ad.1 over_d in
    let some_h : 0 < h = pos_of_dvd_of_pos cb.1 over_b in
    let a_b = coprime_parts a b (a / g) (b / h) ab (quotient_dvd a g ad.0) (quotient_dvd b h cb.1) in
    let c_d = coprime_parts c d (c / h) (d / g) cd (quotient_dvd c h cb.0) (quotient_dvd d g ad.1) in
    let a_d = coprime_quotients a d g some_g ad in
    let c_b = coprime_quotients c b h some_h cb in
    let left = coprime_product (a / g) (b / h) (d / g) a_b a_d in
    let right = coprime_product (c / h) (b / h) (d / g) c_b c_d in
    IsGcd-swap _ _ _ (coprime_product (b / h * (d / g)) (a / g) (c / h) (IsGcd-swap _ _ _ left) (IsGcd-swap _ _ _ right))

-- so that is what the product's parts have in common
pub IsGcd-crosswise : (a b c d g h : ℕ) → 0 < b → 0 < d → IsGcd a b 1 → IsGcd c d 1 → IsGcd a d g → IsGcd c b h → IsGcd (a * c) (b * d) (g * h)
IsGcd-crosswise a b c d g h over_b over_d ab cd ad cb =
    let scaled = IsGcd-multiple (a / g * (c / h)) (b / h * (d / g)) 1 (g * h) (coprime_crosswise a b c d g h over_b over_d ab cd ad cb) in
    let above = quotients_times a c g h ad.0 cb.0 in
    let below = ap (λ (x : ℕ). b / h * (d / g) * x) (mul_comm g h) ∙ quotients_times b d h g cb.1 ad.1 in
    rw (above, below, one-mul (g * h)) at scaled
