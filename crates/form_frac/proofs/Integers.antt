-- Products and sums of whole numbers.
use Rattle.std.proofs.Common.{◌≡◌, ℕ, zero, suc, ◌+◌, ◌*◌, ◌≤◌, Bool, true, false, not, ℤ, pos, negsuc, ◌+ℤ◌, ◌*ℤ◌, neg_ℤ, nat_abs, refl, sym, ◌∙◌, ap, ap₂, arith, mul_assoc, zero-mul}
use Rattle.std.proofs.lemmas.Int.{ints}
use Rattle.std.specs.Int.{is_negative}
use mathlib.Core.Bool.{beq}
use borrow.Author.Differences.{sum_is_lem}
use lib.IntN.{neg_ℤ-neg_ℤ, neg_ℤ-+ℤ, *ℤ-negsuc, *ℤ_comm}
use Rattle.form_frac.specs.Fraction.{signed}
use Rattle.form_frac.proofs.Fractions.{signed_is, nat_abs-signed, signed_times, product_is}

-- ---- products

differ_assoc : (p q r : Bool) → not (beq (not (beq p q)) r) ≡ not (beq p (not (beq q r)))
differ_assoc true true true = refl
differ_assoc true true false = refl
differ_assoc true false true = refl
differ_assoc true false false = refl
differ_assoc false true true = refl
differ_assoc false true false = refl
differ_assoc false false true = refl
differ_assoc false false false = refl

signed_assoc : (p q r : Bool) (k m n : ℕ) → (signed p k *ℤ signed q m) *ℤ signed r n ≡ signed p k *ℤ (signed q m *ℤ signed r n)
signed_assoc p q r k m n =
    ap (λ (x : ℤ). x *ℤ signed r n) (signed_times p q k m)
    ∙ signed_times (not (beq p q)) r (k * m) n
    ∙ ap₂ (λ s x. signed s x) (differ_assoc p q r) (mul_assoc k m n)
    ∙ sym (signed_times p (not (beq q r)) k (m * n))
    ∙ ap (λ (x : ℤ). signed p k *ℤ x) (sym (signed_times q r m n))

pub times_assoc : (x y z : ℤ) → (x *ℤ y) *ℤ z ≡ x *ℤ (y *ℤ z)
times_assoc x y z =
    ap₂ (λ (a b : ℤ). (a *ℤ b) *ℤ z) (sym (signed_is x)) (sym (signed_is y))
    ∙ ap (λ (c : ℤ). (signed (is_negative x) (nat_abs x) *ℤ signed (is_negative y) (nat_abs y)) *ℤ c) (sym (signed_is z))
    ∙ signed_assoc (is_negative x) (is_negative y) (is_negative z) (nat_abs x) (nat_abs y) (nat_abs z)
    ∙ ap₂ (λ (a b : ℤ). a *ℤ (b *ℤ signed (is_negative z) (nat_abs z))) (signed_is x) (signed_is y)
    ∙ ap (λ (c : ℤ). x *ℤ (y *ℤ c)) (signed_is z)

pub times_crosswise : (w x y z : ℤ) → (w *ℤ x) *ℤ (y *ℤ z) ≡ (w *ℤ y) *ℤ (x *ℤ z)
times_crosswise w x y z =
    times_assoc w x (y *ℤ z)
    ∙ ap (λ (a : ℤ). w *ℤ a) (sym (times_assoc x y z) ∙ ap (λ (a : ℤ). a *ℤ z) (*ℤ_comm x y) ∙ times_assoc y x z)
    ∙ sym (times_assoc w y (x *ℤ z))

-- a factor behind another one goes in front of it
pub times_swap : (x y z : ℤ) → (x *ℤ y) *ℤ z ≡ (x *ℤ z) *ℤ y
times_swap x y z = times_assoc x y z ∙ ap (λ (a : ℤ). x *ℤ a) (*ℤ_comm y z) ∙ sym (times_assoc x z y)

pub nat_abs-times : (x y : ℤ) → nat_abs (x *ℤ y) ≡ nat_abs x * nat_abs y
nat_abs-times x y = ap nat_abs (product_is x y) ∙ nat_abs-signed (not (beq (is_negative x) (is_negative y))) (nat_abs x * nat_abs y)

-- ---- sums

sum_times_size : (y z : ℤ) (n : ℕ) → (y +ℤ z) *ℤ pos n ≡ y *ℤ pos n +ℤ z *ℤ pos n
sum_times_size y z n =
    let sum = ap (λ (x : ℕ). x * n) (sum_is_lem y z) in
    omega (arith, ints, sum)

pub sum_times : (y z x : ℤ) → (y +ℤ z) *ℤ x ≡ y *ℤ x +ℤ z *ℤ x
sum_times y z (pos n) = sum_times_size y z n
sum_times y z (negsuc n) =
    *ℤ-negsuc (y +ℤ z) n
    ∙ ap neg_ℤ (sum_times_size y z (suc n))
    ∙ neg_ℤ-+ℤ (y *ℤ pos (suc n)) (z *ℤ pos (suc n))
    ∙ ap₂ (λ (a b : ℤ). a +ℤ b) (sym (*ℤ-negsuc y n)) (sym (*ℤ-negsuc z n))

pub times_sum : (x y z : ℤ) → x *ℤ (y +ℤ z) ≡ x *ℤ y +ℤ x *ℤ z
times_sum x y z = *ℤ_comm x (y +ℤ z) ∙ sum_times y z x ∙ ap₂ (λ (a b : ℤ). a +ℤ b) (*ℤ_comm y x) (*ℤ_comm z x)

pub nat_abs-sum : (x y : ℤ) → nat_abs (x +ℤ y) ≤ nat_abs x + nat_abs y
nat_abs-sum x y = omega (arith, ints)

-- ---- the sign

pub nat_abs-neg : (z : ℤ) → nat_abs (neg_ℤ z) ≡ nat_abs z
nat_abs-neg (pos zero) = refl
nat_abs-neg (pos (suc n)) = refl
nat_abs-neg (negsuc n) = refl

pub neg_signed : (p : Bool) (n : ℕ) → neg_ℤ (signed p n) ≡ signed (not p) n
neg_signed false n = refl
neg_signed true n = neg_ℤ-neg_ℤ (pos n)

pub neg_times_size : (z : ℤ) (n : ℕ) → neg_ℤ z *ℤ pos n ≡ neg_ℤ (z *ℤ pos n)
neg_times_size (pos zero) n = rw zero-mul refl
neg_times_size (pos (suc m)) n = refl
neg_times_size (negsuc m) n = sym (neg_ℤ-neg_ℤ (pos (suc m * n)))

pub neg_times : (x y : ℤ) → neg_ℤ x *ℤ y ≡ neg_ℤ (x *ℤ y)
neg_times x (pos n) = neg_times_size x n
neg_times x (negsuc n) = *ℤ-negsuc (neg_ℤ x) n ∙ ap neg_ℤ (neg_times_size x (suc n) ∙ sym (*ℤ-negsuc x n))
