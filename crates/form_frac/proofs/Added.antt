-- Fractions within a weight, added from left to right.
use Rattle.std.proofs.Common.{◌≡◌, ℕ, ◌+◌, ◌/◌, ◌≤◌, List, [], ◌∷◌, Option, Some, fold, option_and_then, ℤ, pos, ◌+ℤ◌, ◌*ℤ◌, nat_abs, refl, sym, ◌∙◌, ap, subst, arith, le_trans}
use Rattle.std.proofs.Math.Nat.{div_self, mul-div_cancel'}
use Rattle.std.proofs.lemmas.Nat.Gcd.{dvd_refl}
use Rattle.std.specs.List.{AllByRecursion}
use Rattle.std.specs.Int.{◌∣◌}
use lib.IntN.{+ℤ_idr, +ℤ_assoc}
use Rattle.form_frac.specs.Fraction.{Fraction, IsLowest, largest, reduced, add}
use Rattle.form_frac.proofs.Fractions.{times_one}
use Rattle.form_frac.specs.Weight.{Weight, IsWeight, IsSum, of, brought, brought_sum, brought_sizes, added_up}
use Rattle.form_frac.proofs.Integers.{nat_abs-sum}
use Rattle.form_frac.proofs.Reduced.{reduced_scaled, reduced_lowest, lowest_again, brought_reduced, denominator_divides}
use Rattle.form_frac.proofs.Within.{quotient_some, add_within}
use Rattle.form_frac.proofs.Sums.{sizes_cons}

-- a number over the denominator itself
pub times_once : (n : ℤ) (k : ℕ) → 1 ≤ k → n *ℤ pos (k / k) ≡ n
times_once n k some = ap (λ (x : ℕ). n *ℤ pos x) (div_self some) ∙ times_one n

-- a fraction over a number that its denominator divides
pub whole_again : (f : Fraction) (k : ℕ) → IsLowest f → f.denominator ∣ k → 1 ≤ k → reduced (brought k f) k ≡ f
whole_again f k l divides some =
    ap (λ (x : ℕ). reduced (brought k f) x) (sym (mul-div_cancel' f.denominator divides))
    ∙ reduced_scaled f.numerator f.denominator (k / f.denominator) (quotient_some f.denominator k divides some)
    ∙ lowest_again f l

abbrev pub with_next : Option Fraction → Fraction → Option Fraction
with_next sum g = option_and_then (λ a. add a g) sum

-- what has been added so far is n over k
added_from : (k : ℕ) (n : ℤ) (a : Fraction) (fs : List Fraction) → 1 ≤ k → k ≤ largest → IsLowest a → a.denominator ∣ k → a ≡ reduced n k → brought k a ≡ n →
    AllByRecursion IsLowest fs → AllByRecursion (λ f. f.denominator ∣ k) fs → nat_abs n + brought_sizes k fs ≤ largest → fold with_next (Some a) fs ≡ Some (reduced (n +ℤ brought_sum k fs) k)
added_from k n a [] some below la da is is_brought h d le = ap Some (is ∙ ap (λ (x : ℤ). reduced x k) (sym (+ℤ_idr n)))
added_from k n a (f ∷ fs) some below la da is is_brought h d le =
    let m = n +ℤ brought k f in
    let sizes : nat_abs n + (nat_abs (brought k f) + brought_sizes k fs) ≤ largest = subst (λ (x : ℕ). nat_abs n + x ≤ largest) (sizes_cons k f fs) le in
    let two : nat_abs (brought k a) + nat_abs (brought k f) ≤ largest = subst (λ (x : ℤ). nat_abs x + nat_abs (brought k f) ≤ largest) (sym is_brought) (omega (arith, sizes)) in
    let sum : add a f ≡ Some (reduced m k) = add_within a f k la h.0 da d.0 some below two ∙ ap (λ (x : ℤ). Some (reduced (x +ℤ brought k f) k)) is_brought in
    let left : nat_abs m + brought_sizes k fs ≤ largest = omega (arith, sizes, nat_abs-sum n (brought k f)) in
    let small : nat_abs m ≤ largest = omega (arith, left) in
    ap (λ o. fold with_next o fs) sum
    ∙ added_from k m (reduced m k) fs some below (reduced_lowest m k some small below) (denominator_divides m k) refl (brought_reduced m k k some (dvd_refl k) ∙ times_once m k some) h.1 d.1 left
    ∙ ap (λ (x : ℤ). Some (reduced x k)) (+ℤ_assoc n (brought k f) (brought_sum k fs))

pub added_within : (w : Weight) (x f : Fraction) (fs : List Fraction) → IsWeight w → IsSum w x (f ∷ fs) → added_up f fs ≡ Some x
added_within w x f fs v s =
    let k = w.denominator in
    let sizes : nat_abs (brought k f) + brought_sizes k fs ≤ largest = le_trans (subst (λ (n : ℕ). n ≤ w.size) (sizes_cons k f fs) s.sizes) v.is_small_above in
    added_from k (brought k f) f fs v.is_over_some v.is_small_below s.lowest.0 s.divided.0 (sym (whole_again f k s.lowest.0 s.divided.0 v.is_over_some)) refl s.lowest.1 s.divided.1 sizes
    ∙ ap Some (sym s.is)

-- ---- one fraction alone

pub weight_of_one : (f : Fraction) → IsLowest f → IsWeight (of f)
weight_of_one f l = record { is_over_some = l.is_over_some; is_small_below = l.is_small_below; is_small_above = l.is_small_above }

pub sum_of_one : (f : Fraction) → IsLowest f → IsSum (of f) f (f ∷ [])
sum_of_one f l =
    let d = f.denominator in
    let itself : brought d f ≡ f.numerator = times_once f.numerator d l.is_over_some in
    record {
      some = omega arith;
      lowest = (l, tt);
      divided = (dvd_refl d, tt);
      sizes = subst (λ (x : ℕ). x ≤ nat_abs f.numerator) (sym (sizes_cons d f [] ∙ ap (λ (x : ℤ). nat_abs x + 0) itself)) (omega arith);
      is = sym (ap (λ (x : ℤ). reduced x d) (+ℤ_idr (brought d f) ∙ itself) ∙ lowest_again f l);
    }
