-- Products of each of some fractions with each of others: their sum is the product of both sums.
use Rattle.std.proofs.Common.{◌≡◌, ℕ, ◌+◌, ◌*◌, ◌/◌, ◌<◌, ◌≤◌, List, [], ◌∷◌, map, length, Some, ℤ, pos, ◌+ℤ◌, ◌*ℤ◌, nat_abs, sym, ◌∙◌, ap, ap₂, subst, arith, le_trans, add-mul, mul-add, mul-pos, mul-le-mul, zero-mul, mul-zero}
use Rattle.std.proofs.Math.Nat.{mul-div_cancel, mul-dvd-mul}
use Rattle.std.proofs.lemmas.Nat.Gcd.{dvd_trans, le_of_dvd}
use Rattle.std.specs.List.{AllByRecursion}
use Rattle.std.specs.Int.{◌∣◌}
use lib.IntN.{zero-*ℤ, *ℤ-zero}
use Rattle.form_frac.specs.Fraction.{Fraction, IsLowest, largest, reduced, multiply}
use Rattle.form_frac.proofs.Divisors.{quotients_times}
use Rattle.form_frac.specs.Weight.{Weight, IsWeight, IsSum, times, brought, brought_sum, brought_sizes, product, products}
use Rattle.form_frac.proofs.Integers.{times_crosswise, nat_abs-times, sum_times, times_sum}
use Rattle.form_frac.proofs.Reduced.{reduced_lowest, denominator_divides, brought_reduced, product_of_reduced, numerator_small, denominator_small}
use Rattle.form_frac.proofs.Within.{multiply_within}
use Rattle.form_frac.proofs.Sums.{Fits, each_fits, all_of_both, sizes_cons, sizes_append, sum_append, sum_small}
use Rattle.form_frac.proofs.Joined.{IsInRange, in_range_parts}

abbrev pub crossed : Weight → Weight → Weight
crossed a b = record { denominator = a.denominator * b.denominator; size = a.size * b.size }

pub times_parts : (a b c : Weight) → times a b ≡ Some c → (c ≡ crossed a b) × IsInRange (crossed a b)
unfolding times
times_parts a b c e = in_range_parts (crossed a b) c e

-- ---- one product

quotient_of_products : (m n k l : ℕ) → k ∣ m → l ∣ n → 1 ≤ k → 1 ≤ l → m * n / (k * l) ≡ m / k * (n / l)
quotient_of_products m n k l p q some_k some_l = ap (λ (x : ℕ). x / (k * l)) (sym (quotients_times m n k l p q)) ∙ mul-div_cancel (m / k * (n / l)) (mul-pos some_k some_l)

brought_product : (k l m n : ℕ) (f g : Fraction) → Fits k m f → Fits l n g → brought (k * l) (product f g) ≡ brought k f *ℤ brought l g
brought_product k l m n f g p q =
    brought_reduced (f.numerator *ℤ g.numerator) (f.denominator * g.denominator) (k * l) (mul-pos p.lowest.is_over_some q.lowest.is_over_some) (mul-dvd-mul f.denominator g.denominator p.divided q.divided)
    ∙ ap (λ (x : ℕ). (f.numerator *ℤ g.numerator) *ℤ pos x) (quotient_of_products k l f.denominator g.denominator p.divided q.divided p.lowest.is_over_some q.lowest.is_over_some)
    ∙ times_crosswise f.numerator g.numerator (pos (k / f.denominator)) (pos (l / g.denominator))

-- what is in range of both weights
record AreSmall (k l m n : ℕ) : Type 0 where
  left : 1 ≤ k
  right : 1 ≤ l
  below : k * l ≤ largest
  above : m * n ≤ largest

small_above : (k l m n : ℕ) (f g : Fraction) → AreSmall k l m n → Fits k m f → Fits l n g → nat_abs f.numerator * nat_abs g.numerator ≤ largest
small_above k l m n f g r p q = le_trans (mul-le-mul p.small q.small) r.above

small_below : (k l m n : ℕ) (f g : Fraction) → AreSmall k l m n → Fits k m f → Fits l n g → f.denominator * g.denominator ≤ largest
small_below k l m n f g r p q = le_trans (mul-le-mul (le_of_dvd r.left p.divided) (le_of_dvd r.right q.divided)) r.below

product_lowest : (k l m n : ℕ) (f g : Fraction) → AreSmall k l m n → Fits k m f → Fits l n g → IsLowest (product f g)
product_lowest k l m n f g r p q =
    reduced_lowest (f.numerator *ℤ g.numerator) (f.denominator * g.denominator) (mul-pos p.lowest.is_over_some q.lowest.is_over_some)
    (subst (λ (x : ℕ). x ≤ largest) (sym (nat_abs-times f.numerator g.numerator)) (small_above k l m n f g r p q)) (small_below k l m n f g r p q)

product_divided : (k l m n : ℕ) (f g : Fraction) → Fits k m f → Fits l n g → (product f g).denominator ∣ k * l
product_divided k l m n f g p q =
    dvd_trans (product f g).denominator (denominator_divides (f.numerator *ℤ g.numerator) (f.denominator * g.denominator)) (mul-dvd-mul f.denominator g.denominator p.divided q.divided)

-- ---- one fraction with each of others

module _ (k l m n : ℕ) where
  sum_with : (f : Fraction) (gs : List Fraction) → Fits k m f → AllByRecursion (Fits l n) gs → brought_sum (k * l) (map (product f) gs) ≡ brought k f *ℤ brought_sum l gs
  sum_with f [] p h = sym (*ℤ-zero (brought k f))
  sum_with f (g ∷ gs) p h = ap₂ (λ (x y : ℤ). x +ℤ y) (brought_product k l m n f g p h.0) (sum_with f gs p h.1) ∙ sym (times_sum (brought k f) (brought l g) (brought_sum l gs))

  sizes_with : (f : Fraction) (gs : List Fraction) → Fits k m f → AllByRecursion (Fits l n) gs → brought_sizes (k * l) (map (product f) gs) ≡ nat_abs (brought k f) * brought_sizes l gs
  sizes_with f [] p h = sym (mul-zero (nat_abs (brought k f)))
  sizes_with f (g ∷ gs) p h =
      sizes_cons (k * l) (product f g) (map (product f) gs)
      ∙ ap₂ (λ (x y : ℕ). x + y) (ap nat_abs (brought_product k l m n f g p h.0) ∙ nat_abs-times (brought k f) (brought l g)) (sizes_with f gs p h.1)
      ∙ sym (ap (λ (x : ℕ). nat_abs (brought k f) * x) (sizes_cons l g gs) ∙ mul-add (nat_abs (brought k f)) (nat_abs (brought l g)) (brought_sizes l gs))

  lowest_with : (f : Fraction) (gs : List Fraction) → AreSmall k l m n → Fits k m f → AllByRecursion (Fits l n) gs → AllByRecursion IsLowest (map (product f) gs)
  lowest_with f [] r p h = tt
  lowest_with f (g ∷ gs) r p h = (product_lowest k l m n f g r p h.0, lowest_with f gs r p h.1)

  divided_with : (f : Fraction) (gs : List Fraction) → Fits k m f → AllByRecursion (Fits l n) gs → AllByRecursion (λ x. x.denominator ∣ k * l) (map (product f) gs)
  divided_with f [] p h = tt
  divided_with f (g ∷ gs) p h = (product_divided k l m n f g p h.0, divided_with f gs p h.1)

  multiply_with : (f : Fraction) (gs : List Fraction) → AreSmall k l m n → Fits k m f → AllByRecursion (Fits l n) gs → AllByRecursion (λ g. multiply f g ≡ Some (product f g)) gs
  multiply_with f [] r p h = tt
  multiply_with f (g ∷ gs) r p h = (multiply_within f g (small_above k l m n f g r p h.0) (small_below k l m n f g r p h.0), multiply_with f gs r p h.1)

  -- ---- each with each

  sum_of_products : (fs gs : List Fraction) → AllByRecursion (Fits k m) fs → AllByRecursion (Fits l n) gs → brought_sum (k * l) (products fs gs) ≡ brought_sum k fs *ℤ brought_sum l gs
  sum_of_products [] gs g h = sym (zero-*ℤ (brought_sum l gs))
  sum_of_products (f ∷ fs) gs g h =
      sum_append (k * l) (map (product f) gs) (products fs gs)
      ∙ ap₂ (λ (x y : ℤ). x +ℤ y) (sum_with f gs g.0 h) (sum_of_products fs gs g.1 h)
      ∙ sym (sum_times (brought k f) (brought_sum k fs) (brought_sum l gs))

  sizes_of_products : (fs gs : List Fraction) → AllByRecursion (Fits k m) fs → AllByRecursion (Fits l n) gs → brought_sizes (k * l) (products fs gs) ≡ brought_sizes k fs * brought_sizes l gs
  sizes_of_products [] gs g h = sym (zero-mul (brought_sizes l gs))
  sizes_of_products (f ∷ fs) gs g h =
      sizes_append (k * l) (map (product f) gs) (products fs gs)
      ∙ ap₂ (λ (x y : ℕ). x + y) (sizes_with f gs g.0 h) (sizes_of_products fs gs g.1 h)
      ∙ sym (ap (λ (x : ℕ). x * brought_sizes l gs) (sizes_cons k f fs) ∙ add-mul (nat_abs (brought k f)) (brought_sizes k fs) (brought_sizes l gs))

  lowest_products : (fs gs : List Fraction) → AreSmall k l m n → AllByRecursion (Fits k m) fs → AllByRecursion (Fits l n) gs → AllByRecursion IsLowest (products fs gs)
  lowest_products [] gs r g h = tt
  lowest_products (f ∷ fs) gs r g h = all_of_both IsLowest (map (product f) gs) (products fs gs) (lowest_with f gs r g.0 h) (lowest_products fs gs r g.1 h)

  divided_products : (fs gs : List Fraction) → AllByRecursion (Fits k m) fs → AllByRecursion (Fits l n) gs → AllByRecursion (λ x. x.denominator ∣ k * l) (products fs gs)
  divided_products [] gs g h = tt
  divided_products (f ∷ fs) gs g h = all_of_both (λ x. x.denominator ∣ k * l) (map (product f) gs) (products fs gs) (divided_with f gs g.0 h) (divided_products fs gs g.1 h)

  multiply_each : (fs gs : List Fraction) → AreSmall k l m n → AllByRecursion (Fits k m) fs → AllByRecursion (Fits l n) gs →
      AllByRecursion (λ f. AllByRecursion (λ g. multiply f g ≡ Some (product f g)) gs) fs
  multiply_each [] gs r g h = tt
  multiply_each (f ∷ fs) gs r g h = (multiply_with f gs r g.0 h, multiply_each fs gs r g.1 h)

some_products : (fs gs : List Fraction) → 0 < length fs → 0 < length gs → 0 < length (products fs gs)
some_products [] gs p q = absurd (omega arith)
some_products (f ∷ fs) [] p q = absurd (omega arith)
some_products (f ∷ fs) (g ∷ gs) p q = omega arith

-- ---- within weights

fitting : (w : Weight) (x : Fraction) (fs : List Fraction) → IsWeight w → IsSum w x fs → AllByRecursion (Fits w.denominator w.size) fs
fitting w x fs v s = each_fits w.denominator w.size fs v.is_over_some s.lowest s.divided s.sizes

are_small : (a b : Weight) → IsWeight a → IsWeight b → IsInRange (crossed a b) → AreSmall a.denominator b.denominator a.size b.size
are_small a b v u r = record { left = v.is_over_some; right = u.is_over_some; below = r.below; above = r.above }

crossed_is_weight : (a b : Weight) → IsWeight a → IsWeight b → IsInRange (crossed a b) → IsWeight (crossed a b)
crossed_is_weight a b v u r = record { is_over_some = mul-pos v.is_over_some u.is_over_some; is_small_below = r.below; is_small_above = r.above }

sum_crossed : (a b : Weight) (x y : Fraction) (fs gs : List Fraction) → IsWeight a → IsWeight b → IsInRange (crossed a b) → IsSum a x fs → IsSum b y gs →
    IsSum (crossed a b) (product x y) (products fs gs)
sum_crossed a b x y fs gs v u r s t =
    let k = a.denominator in
    let l = b.denominator in
    let left = fitting a x fs v s in
    let right = fitting b y gs u t in
    record {
      some = some_products fs gs s.some t.some;
      lowest = lowest_products k l a.size b.size fs gs (are_small a b v u r) left right;
      divided = divided_products k l a.size b.size fs gs left right;
      sizes = subst (λ (n : ℕ). n ≤ a.size * b.size) (sym (sizes_of_products k l a.size b.size fs gs left right)) (mul-le-mul s.sizes t.sizes);
      is = ap₂ product s.is t.is ∙ product_of_reduced (brought_sum k fs) (brought_sum l gs) k l ∙ ap (λ (z : ℤ). reduced z (k * l)) (sym (sum_of_products k l a.size b.size fs gs left right));
    }

numerator_within : (w : Weight) (x : Fraction) (fs : List Fraction) → IsSum w x fs → nat_abs x.numerator ≤ w.size
numerator_within w x fs s =
    subst (λ (f : Fraction). nat_abs f.numerator ≤ w.size) (sym s.is) (le_trans (numerator_small (brought_sum w.denominator fs) w.denominator) (le_trans (sum_small w.denominator fs) s.sizes))

denominator_within : (w : Weight) (x : Fraction) (fs : List Fraction) → IsSum w x fs → x.denominator ≤ w.denominator
denominator_within w x fs s = subst (λ (f : Fraction). f.denominator ≤ w.denominator) (sym s.is) (denominator_small (brought_sum w.denominator fs) w.denominator)

multiply_crossed : (a b : Weight) (x y : Fraction) (fs gs : List Fraction) → IsInRange (crossed a b) → IsSum a x fs → IsSum b y gs → multiply x y ≡ Some (product x y)
multiply_crossed a b x y fs gs r s t =
    multiply_within x y (le_trans (mul-le-mul (numerator_within a x fs s) (numerator_within b y gs t)) r.above) (le_trans (mul-le-mul (denominator_within a x fs s) (denominator_within b y gs t)) r.below)

abbrev pub AreCrossed : Weight → Fraction → Fraction → List Fraction → List Fraction → Type 0
AreCrossed c x y fs gs = IsWeight c × (multiply x y ≡ Some (product x y)) × IsSum c (product x y) (products fs gs)

pub paired : (a b c : Weight) (x y : Fraction) (fs gs : List Fraction) → IsWeight a → IsWeight b → times a b ≡ Some c → IsSum a x fs → IsSum b y gs → AreCrossed c x y fs gs
paired a b c x y fs gs v u e s t =
    let found = times_parts a b c e in
    let all : AreCrossed (crossed a b) x y fs gs =
    (crossed_is_weight a b v u found.1, multiply_crossed a b x y fs gs found.1 s t, sum_crossed a b x y fs gs v u found.1 s t) in
    subst (λ (w : Weight). AreCrossed w x y fs gs) (sym found.0) all

pub each : (a b c : Weight) (x y : Fraction) (fs gs : List Fraction) → IsWeight a → IsWeight b → times a b ≡ Some c → IsSum a x fs → IsSum b y gs →
    AllByRecursion (λ f. AllByRecursion (λ g. multiply f g ≡ Some (product f g)) gs) fs
each a b c x y fs gs v u e s t =
    multiply_each a.denominator b.denominator a.size b.size fs gs (are_small a b v u (times_parts a b c e).1) (fitting a x fs v s) (fitting b y gs u t)
