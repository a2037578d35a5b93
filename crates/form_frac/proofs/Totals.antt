-- What fractions that are added from left to right add up to, where no step overflows.
use Rattle.std.proofs.Common.{◌≡◌, ℕ, ◌/◌, ◌≤◌, List, [], ◌∷◌, Option, Some, None, fold, ℤ, pos, ◌+ℤ◌, ◌*ℤ◌, nat_abs, nat_le, ◌&&◌, refl, sym, ◌∙◌, ap, ap₂, subst, leb-true}
use Rattle.std.proofs.Math.Nat.{mul-div_cancel'}
use Rattle.std.proofs.lemmas.Bool.{and_parts}
use Rattle.std.proofs.lemmas.Nat.Gcd.{dvd_refl}
use Rattle.std.specs.List.{AllByRecursion}
use Rattle.std.specs.Int.{◌∣◌}
use lib.IntN.{+ℤ_idr, +ℤ_assoc}
use Rattle.form_frac.specs.Fraction.{Fraction, IsLowest, largest, lcm, reduced, is_in_range, add}
use Rattle.form_frac.specs.Weight.{brought, brought_sum, sum_over, added_up}
use Rattle.form_frac.proofs.Fractions.{some_if}
use Rattle.form_frac.proofs.Integers.{sum_times}
use Rattle.form_frac.proofs.Joined.{lcm_some}
use Rattle.form_frac.proofs.Reduced.{reduced_scaled, reduced_lowest, brought_reduced, denominator_divides}
use Rattle.form_frac.proofs.Values.{lcm_left, lcm_right, lcm_least}
use Rattle.form_frac.proofs.Within.{quotient_some, brought_further}
use Rattle.form_frac.proofs.Added.{times_once, whole_again, with_next}

-- the sum of two over the multiple of their denominators
record IsOverMultiple (a f b : Fraction) (l : ℕ) : Type 0 where
  is : b ≡ reduced (brought l a +ℤ brought l f) l
  below : l ≤ largest
  above : nat_abs (brought l a +ℤ brought l f) ≤ largest

over_multiple : (a f b : Fraction) → add a f ≡ Some b → IsOverMultiple a f b (lcm a.denominator f.denominator)
unfolding add
over_multiple a f b e =
    let l = lcm a.denominator f.denominator in
    let sum = brought l a +ℤ brought l f in
    let found = some_if (nat_le l largest && (is_in_range (brought l a) && (is_in_range (brought l f) && is_in_range sum))) (reduced sum l) b (sym e) in
    let first = and_parts (nat_le l largest) (is_in_range (brought l a) && (is_in_range (brought l f) && is_in_range sum)) found.0 in
    let second = and_parts (is_in_range (brought l a)) (is_in_range (brought l f) && is_in_range sum) first.1 in
    let third = and_parts (is_in_range (brought l f)) (is_in_range sum) second.1 in
    record { is = found.1; below = leb-true l largest first.0; above = leb-true (nat_abs sum) largest third.1 }

-- the sum of two over any number that their denominators divide
record IsOver (k : ℕ) (n : ℤ) (b : Fraction) : Type 0 where
  lowest : IsLowest b
  divided : b.denominator ∣ k
  is : brought k b ≡ n

next_over : (k : ℕ) (n : ℤ) (a f b : Fraction) → 1 ≤ k → IsOver k n a → IsLowest f → f.denominator ∣ k → add a f ≡ Some b → IsOver k (n +ℤ brought k f) b
next_over k n a f b some h lf df e =
    let l = lcm a.denominator f.denominator in
    let made = over_multiple a f b e in
    let some_l : 1 ≤ l = lcm_some a.denominator f.denominator h.lowest.is_over_some lf.is_over_some in
    let divides : l ∣ k = lcm_least a.denominator f.denominator k h.divided df in
    let q = k / l in
    let left : brought k a ≡ brought l a *ℤ pos q = brought_further a l k h.lowest.is_over_some (lcm_left a.denominator f.denominator) divides in
    let right : brought k f ≡ brought l f *ℤ pos q = brought_further f l k lf.is_over_some (lcm_right a.denominator f.denominator) divides in
    let both : n +ℤ brought k f ≡ (brought l a +ℤ brought l f) *ℤ pos q =
    ap (λ (x : ℤ). x +ℤ brought k f) (sym h.is) ∙ ap₂ (λ (x y : ℤ). x +ℤ y) left right ∙ sym (sum_times (brought l a) (brought l f) (pos q)) in
    let over_k : b ≡ reduced (n +ℤ brought k f) k =
    made.is ∙ sym (reduced_scaled (brought l a +ℤ brought l f) l q (quotient_some l k divides some)) ∙ ap₂ (λ (x : ℤ) (y : ℕ). reduced x y) (sym both) (mul-div_cancel' l divides) in
    record {
      lowest = subst (λ (x : Fraction). IsLowest x) (sym made.is) (reduced_lowest (brought l a +ℤ brought l f) l some_l made.above made.below);
      divided = subst (λ (x : Fraction). x.denominator ∣ k) (sym over_k) (denominator_divides (n +ℤ brought k f) k);
      is = ap (λ (x : Fraction). brought k x) over_k ∙ brought_reduced (n +ℤ brought k f) k k some (dvd_refl k) ∙ times_once (n +ℤ brought k f) k some;
    }

none_left : (fs : List Fraction) (s : Fraction) → fold with_next None fs ≡ Some s → ⊥
none_left [] s e = cc
none_left (f ∷ fs) s e = none_left fs s e

added_over : (k : ℕ) (n : ℤ) (a s : Fraction) (fs : List Fraction) → 1 ≤ k → IsOver k n a → AllByRecursion IsLowest fs → AllByRecursion (λ f. f.denominator ∣ k) fs →
    fold with_next (Some a) fs ≡ Some s → IsOver k (n +ℤ brought_sum k fs) s
added_over k n a s [] some h l d e =
    let is : a ≡ s = cc in
    subst (λ (x : ℤ). IsOver k x s) (sym (+ℤ_idr n)) (subst (λ (x : Fraction). IsOver k n x) is h)
added_over k n a s (f ∷ fs) some h l d e = at (λ b over rest. added_over k (n +ℤ brought k f) b s fs some over l.1 d.1 rest) (add a f) refl e
  where
    at : ((b : Fraction) → IsOver k (n +ℤ brought k f) b → fold with_next (Some b) fs ≡ Some s → IsOver k ((n +ℤ brought k f) +ℤ brought_sum k fs) s)
        → (o : Option Fraction) → add a f ≡ o → fold with_next o fs ≡ Some s → IsOver k (n +ℤ brought_sum k (f ∷ fs)) s
    at others None is e = absurd (none_left fs s e)
    at others (Some b) is e = subst (λ (x : ℤ). IsOver k x s) (+ℤ_assoc n (brought k f) (brought_sum k fs)) (others b (next_over k n a f b some h l.0 d.0 is) e)

-- what is added up is the sum
pub added_is_sum : (k : ℕ) (f s : Fraction) (fs : List Fraction) → 1 ≤ k → AllByRecursion IsLowest (f ∷ fs) → AllByRecursion (λ g. g.denominator ∣ k) (f ∷ fs) →
    added_up f fs ≡ Some s → s ≡ sum_over k (f ∷ fs)
added_is_sum k f s fs some l d e =
    let h = added_over k (brought k f) f s fs some (record { lowest = l.0; divided = d.0; is = refl }) l.1 d.1 e in
    sym (whole_again s k h.lowest h.divided some) ∙ ap (λ (x : ℤ). reduced x k) h.is
