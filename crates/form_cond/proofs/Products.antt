-- A weight of 32 bits times a number of at most 2^48 in size.
use Rattle.std.proofs.Common.{◌≡◌, ℕ, ◌*◌, ◌≤◌, ◌^◌, ℤ, ◌*ℤ◌, nat_abs, to_z, of_z, SFits, sym, ap, ◌∙◌, subst, arith, lit<}
use Rattle.std.specs.Int.{w32, w128}
use Rattle.std.specs.Int.Signed.{nat_abs-le}
use Rattle.std.proofs.lemmas.Int.{fits_signed_from_abs, fits_signed_mul, to_z-of_z, unsigned_abs-mul}
use Rattle.std.proofs.Math.Nat.{mul-le-mul}

module _ (w u n : ℤ) (fits : SFits w32 w) (is : u ≡ to_z w32 (of_z w32 w)) (few : nat_abs n ≤ 2 ^ 48) where
  small : nat_abs w ≤ 2 ^ 31
  small = nat_abs-le w fits.sfits

  same : u ≡ w
  same = is ∙ to_z-of_z w32 w fits

  weight_is : to_z w128 (of_z w128 u) ≡ w
  weight_is = to_z-of_z w128 u (subst (SFits w128) (sym same) (fits_signed_from_abs w128 w (omega (arith, small)))) ∙ same

  number_is : to_z w128 (of_z w128 n) ≡ n
  number_is = to_z-of_z w128 n (fits_signed_from_abs w128 n (omega (arith, few)))

  product_is : to_z w128 (of_z w128 u) *ℤ to_z w128 (of_z w128 n) ≡ w *ℤ n
  product_is = ap (λ x. x *ℤ to_z w128 (of_z w128 n)) weight_is ∙ ap (λ y. w *ℤ y) number_is

  pub product_fits : SFits w128 (to_z w128 (of_z w128 u) *ℤ to_z w128 (of_z w128 n))
  product_fits = subst (SFits w128) (sym product_is) (fits_signed_mul w128 w n (2 ^ 31) (2 ^ 48) small few (lit< tt))

  pub product : to_z w128 (of_z w128 (to_z w128 (of_z w128 u) *ℤ to_z w128 (of_z w128 n))) ≡ w *ℤ n
  product = to_z-of_z w128 (to_z w128 (of_z w128 u) *ℤ to_z w128 (of_z w128 n)) product_fits ∙ product_is

  bounded : nat_abs (w *ℤ n) ≤ 2 ^ 80
  bounded =
      let sizes : nat_abs w * nat_abs n ≤ 2 ^ 31 * 2 ^ 48 = mul-le-mul small few in
      subst (λ (m : ℕ). m ≤ 2 ^ 80) (sym (unsigned_abs-mul w n)) (omega (arith, sizes))

  pub product_bounded : nat_abs (to_z w128 (of_z w128 (to_z w128 (of_z w128 u) *ℤ to_z w128 (of_z w128 n)))) ≤ 2 ^ 80
  product_bounded = subst (λ (z : ℤ). nat_abs z ≤ 2 ^ 80) (sym product) bounded
