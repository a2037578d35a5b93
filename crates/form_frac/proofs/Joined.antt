-- The sums of two lists that are put together, and of one that is put in another order or turned in its signs.
use Rattle.std.proofs.Common.{◌≡◌, ℕ, ◌+◌, ◌*◌, ◌/◌, ◌<◌, ◌≤◌, Bool, true, false, ◌&&◌, nat_le, List, [], ◌∷◌, ◌++◌, map, length, Some, ℤ, ◌+ℤ◌, neg_ℤ, nat_abs, refl, sym, ◌∙◌, ap, ap₂, subst, arith, le_trans, leb-true, add-le-add, mul-le-mul_right, mul-pos}
use Rattle.std.proofs.Math.Nat.{pos_of_dvd_of_pos, mul-div_cancel'}
use Rattle.std.proofs.lemmas.Nat.Gcd.{dvd_trans}
use Rattle.std.proofs.lemmas.List.Sorted.{length_permutation}
use Rattle.std.specs.List.{AllByRecursion}
use Rattle.std.specs.List.Sorted.{IsPermutation}
use Rattle.std.specs.Int.{◌∣◌}
use lib.IntN.{neg_ℤ-+ℤ}
use Rattle.form_frac.specs.Fraction.{Fraction, IsLowest, largest, gcd, lcm, reduced, add, negate}
use Rattle.form_frac.proofs.Fractions.{some_if}
use Rattle.form_frac.proofs.Divisors.{quotient_dvd, gcd_is}
use Rattle.form_frac.proofs.Values.{lcm_left, lcm_right}
use Rattle.form_frac.specs.Weight.{Weight, IsWeight, IsSum, if_in_range, join, brought, brought_sum, brought_sizes, sum_over}
use Rattle.form_frac.proofs.Integers.{nat_abs-neg, neg_times_size}
use Rattle.form_frac.proofs.Reduced.{reduced_scaled, reduced_lowest, denominator_divides, brought_reduced, negate_reduced, negate_lowest}
use Rattle.form_frac.proofs.Within.{add_within, quotient_some}
use Rattle.form_frac.proofs.Sums.{all_of_both, implied, all_moved, sizes_append, sizes_cons, sizes_moved, sizes_further, sum_append, sum_further, sum_small, sum_moved}

-- ---- what is in range

both_true : (p q : Bool) → (p && q) ≡ true → (p ≡ true) × (q ≡ true)
both_true true q e = (refl, e)
both_true false q e = cc

pub record IsInRange (w : Weight) : Type 0 where
  pub below : w.denominator ≤ largest
  pub above : w.size ≤ largest

pub in_range_parts : (w c : Weight) → if_in_range w ≡ Some c → (c ≡ w) × IsInRange w
in_range_parts w c e =
    let found = some_if (nat_le w.denominator largest && nat_le w.size largest) w c (sym e) in
    let tests = both_true (nat_le w.denominator largest) (nat_le w.size largest) found.0 in
    (found.1, record { below = leb-true _ _ tests.0; above = leb-true _ _ tests.1 })

-- ---- put together

abbrev pub together : Weight → Weight → Weight
together a b =
    let common = lcm a.denominator b.denominator in
    record { denominator = common; size = a.size * (common / a.denominator) + b.size * (common / b.denominator) }

pub join_parts : (a b c : Weight) → join a b ≡ Some c → (c ≡ together a b) × IsInRange (together a b)
unfolding join
join_parts a b c e = in_range_parts (together a b) c e

pub lcm_some : (m n : ℕ) → 1 ≤ m → 1 ≤ n → 1 ≤ lcm m n
unfolding lcm
lcm_some m n some_m some_n = mul-pos some_m (pos_of_dvd_of_pos (quotient_dvd n (gcd m n) (gcd_is m n).1) some_n)

pub together_is_weight : (a b : Weight) → IsWeight a → IsWeight b → IsInRange (together a b) → IsWeight (together a b)
together_is_weight a b v u r =
    record { is_over_some = lcm_some a.denominator b.denominator v.is_over_some u.is_over_some; is_small_below = r.below; is_small_above = r.above }

-- what a list comes to once it is brought further, to a number that its weight's divides
record Further (w : Weight) (c : ℕ) (fs : List Fraction) : Type 0 where
  lowest : IsLowest (sum_over w.denominator fs)
  divided : (sum_over w.denominator fs).denominator ∣ c
  same : brought c (sum_over w.denominator fs) ≡ brought_sum c fs
  sizes : brought_sizes c fs ≤ w.size * (c / w.denominator)
  each : AllByRecursion (λ f. f.denominator ∣ c) fs

brought_on : (w : Weight) (c : ℕ) (x : Fraction) (fs : List Fraction) → IsWeight w → IsSum w x fs → w.denominator ∣ c → Further w c fs
brought_on w c x fs v s divides =
    let k = w.denominator in
    let n = brought_sum k fs in
    let small : nat_abs n ≤ largest = le_trans (sum_small k fs) (le_trans s.sizes v.is_small_above) in
    record {
      lowest = reduced_lowest n k v.is_over_some small v.is_small_below;
      divided = dvd_trans (reduced n k).denominator (denominator_divides n k) divides;
      same = brought_reduced n k c v.is_over_some divides ∙ sym (sum_further k c fs s.lowest s.divided divides);
      sizes = subst (λ (x : ℕ). x ≤ w.size * (c / k)) (sym (sizes_further k c fs s.lowest s.divided divides)) (mul-le-mul_right (c / k) s.sizes);
      each = implied (λ f. f.denominator ∣ k) (λ f. f.denominator ∣ c) (λ f d. dvd_trans f.denominator d divides) fs s.divided;
    }

some_of_both : (fs gs : List Fraction) → 0 < length fs → 0 < length (fs ++ gs)
some_of_both [] gs some = absurd (omega arith)
some_of_both (f ∷ fs) gs some = omega arith

sizes_together : (c m n : ℕ) (fs gs : List Fraction) → brought_sizes c fs ≤ m → brought_sizes c gs ≤ n → brought_sizes c (fs ++ gs) ≤ m + n
sizes_together c m n fs gs p q = subst (λ (x : ℕ). x ≤ m + n) (sym (sizes_append c fs gs)) (add-le-add p q)

pub sum_together : (a b : Weight) (x y : Fraction) (fs gs : List Fraction) → IsWeight a → IsWeight b → IsSum a x fs → IsSum b y gs →
    IsSum (together a b) (sum_over (lcm a.denominator b.denominator) (fs ++ gs)) (fs ++ gs)
sum_together a b x y fs gs v u s t =
    let c = lcm a.denominator b.denominator in
    let left = brought_on a c x fs v s (lcm_left a.denominator b.denominator) in
    let right = brought_on b c y gs u t (lcm_right a.denominator b.denominator) in
    record {
      some = some_of_both fs gs s.some;
      lowest = all_of_both IsLowest fs gs s.lowest t.lowest;
      divided = all_of_both (λ f. f.denominator ∣ c) fs gs left.each right.each;
      sizes = sizes_together c (a.size * (c / a.denominator)) (b.size * (c / b.denominator)) fs gs left.sizes right.sizes;
      is = refl;
    }

pub add_together : (a b : Weight) (x y : Fraction) (fs gs : List Fraction) → IsWeight a → IsWeight b → IsInRange (together a b) → IsSum a x fs → IsSum b y gs →
    add x y ≡ Some (sum_over (lcm a.denominator b.denominator) (fs ++ gs))
add_together a b x y fs gs v u r s t =
    let c = lcm a.denominator b.denominator in
    let left = brought_on a c x fs v s (lcm_left a.denominator b.denominator) in
    let right = brought_on b c y gs u t (lcm_right a.denominator b.denominator) in
    let f = sum_over a.denominator fs in
    let g = sum_over b.denominator gs in
    let small : nat_abs (brought c f) + nat_abs (brought c g) ≤ largest =
    subst (λ (n : ℕ). n ≤ largest) (sym (ap₂ (λ (m n : ℤ). nat_abs m + nat_abs n) left.same right.same))
    (le_trans (add-le-add (le_trans (sum_small c fs) left.sizes) (le_trans (sum_small c gs) right.sizes)) r.above) in
    ap₂ add s.is t.is
    ∙ add_within f g c left.lowest right.lowest left.divided right.divided (lcm_some a.denominator b.denominator v.is_over_some u.is_over_some) r.below small
    ∙ ap (λ (n : ℤ). Some (reduced n c)) (ap₂ (λ (m n : ℤ). m +ℤ n) left.same right.same ∙ sym (sum_append c fs gs))

-- all of it, for the weight that is found
abbrev pub AreTogether : Weight → Fraction → Fraction → List Fraction → List Fraction → Type 0
AreTogether c x y fs gs = IsWeight c × (add x y ≡ Some (sum_over c.denominator (fs ++ gs))) × IsSum c (sum_over c.denominator (fs ++ gs)) (fs ++ gs)

pub joined : (a b c : Weight) (x y : Fraction) (fs gs : List Fraction) → IsWeight a → IsWeight b → join a b ≡ Some c → IsSum a x fs → IsSum b y gs → AreTogether c x y fs gs
joined a b c x y fs gs v u e s t =
    let found = join_parts a b c e in
    let all : AreTogether (together a b) x y fs gs =
    (together_is_weight a b v u found.1, add_together a b x y fs gs v u found.1 s t, sum_together a b x y fs gs v u s t) in
    subst (λ (w : Weight). AreTogether w x y fs gs) (sym found.0) all

-- ---- over another number

pub over_another : (w : Weight) (x : Fraction) (fs : List Fraction) (k : ℕ) → IsSum w x fs → w.denominator ∣ k → 1 ≤ k → sum_over k fs ≡ x
over_another w x fs k s divides some =
    let l = w.denominator in
    ap₂ (λ (n : ℤ) (d : ℕ). reduced n d) (sum_further l k fs s.lowest s.divided divides) (sym (mul-div_cancel' l divides))
    ∙ reduced_scaled (brought_sum l fs) l (k / l) (quotient_some l k divides some)
    ∙ sym s.is

-- ---- in another order

pub moved : (w : Weight) (x : Fraction) (fs gs : List Fraction) → IsPermutation fs gs → IsSum w x fs → IsSum w x gs
moved w x fs gs p s =
    let k = w.denominator in
    record {
      some = subst (λ (n : ℕ). 0 < n) (sym (length_permutation fs gs p)) s.some;
      lowest = all_moved IsLowest fs gs p s.lowest;
      divided = all_moved (λ f. f.denominator ∣ k) fs gs p s.divided;
      sizes = subst (λ (n : ℕ). n ≤ w.size) (sym (sizes_moved k fs gs p)) s.sizes;
      is = s.is ∙ ap (λ (n : ℤ). reduced n k) (sym (sum_moved k fs gs p));
    }

-- ---- with the other sign

brought_negated : (k : ℕ) (f : Fraction) → brought k (negate f) ≡ neg_ℤ (brought k f)
brought_negated k f = neg_times_size f.numerator (k / f.denominator)

sum_negated : (k : ℕ) (fs : List Fraction) → brought_sum k (map negate fs) ≡ neg_ℤ (brought_sum k fs)
sum_negated k [] = refl
sum_negated k (f ∷ fs) = ap₂ (λ (m n : ℤ). m +ℤ n) (brought_negated k f) (sum_negated k fs) ∙ sym (neg_ℤ-+ℤ (brought k f) (brought_sum k fs))

sizes_negated : (k : ℕ) (fs : List Fraction) → brought_sizes k (map negate fs) ≡ brought_sizes k fs
sizes_negated k [] = refl
sizes_negated k (f ∷ fs) =
    sizes_cons k (negate f) (map negate fs)
    ∙ ap₂ (λ (m n : ℕ). m + n) (ap nat_abs (brought_negated k f) ∙ nat_abs-neg (brought k f)) (sizes_negated k fs)
    ∙ sym (sizes_cons k f fs)

lowest_negated : (fs : List Fraction) → AllByRecursion IsLowest fs → AllByRecursion IsLowest (map negate fs)
lowest_negated [] h = tt
lowest_negated (f ∷ fs) h = (negate_lowest f h.0, lowest_negated fs h.1)

divided_negated : (k : ℕ) (fs : List Fraction) → AllByRecursion (λ f. f.denominator ∣ k) fs → AllByRecursion (λ f. f.denominator ∣ k) (map negate fs)
divided_negated k [] h = tt
divided_negated k (f ∷ fs) h = (h.0, divided_negated k fs h.1)

some_negated : (fs : List Fraction) → 0 < length fs → 0 < length (map negate fs)
some_negated [] some = absurd (omega arith)
some_negated (f ∷ fs) some = omega arith

pub negated : (w : Weight) (x : Fraction) (fs : List Fraction) → IsSum w x fs → IsSum w (negate x) (map negate fs)
negated w x fs s =
    let k = w.denominator in
    record {
      some = some_negated fs s.some;
      lowest = lowest_negated fs s.lowest;
      divided = divided_negated k fs s.divided;
      sizes = subst (λ (n : ℕ). n ≤ w.size) (sym (sizes_negated k fs)) s.sizes;
      is = ap negate s.is ∙ negate_reduced (brought_sum k fs) k ∙ ap (λ (n : ℤ). reduced n k) (sym (sum_negated k fs));
    }
