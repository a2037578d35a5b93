-- Lists of fractions that are brought to one number: their sums and sizes.
use Rattle.std.proofs.Common.{◌≡◌, ℕ, ◌+◌, ◌*◌, ◌/◌, ◌≤◌, List, [], ◌∷◌, ◌++◌, ℤ, pos, ◌+ℤ◌, ◌*ℤ◌, neg_ℤ, nat_abs, refl, sym, ◌∙◌, ap, ap₂, subst, arith, le_refl, le_trans, add-le-add, add-mul, zero-mul, le-add_right, le-add_left}
use Rattle.std.specs.List.{AllByRecursion, sum_by}
use Rattle.std.specs.List.Sorted.{IsPermutation}
use Rattle.std.specs.Int.{◌∣◌}
use Rattle.std.proofs.lemmas.Int.{ints}
use Rattle.std.proofs.lemmas.List.Sums.{sum_by-cons, sum_by-append}
use Rattle.std.proofs.lemmas.List.Sorted.{sum_by-IsPermutation, All-permutation}
use Rattle.std.proofs.lemmas.List.Elements.{All-from_recursion, recursion_from_All}
use borrow.Author.Differences.{up, down}
use lib.IntN.{+ℤ_idl, +ℤ_assoc, zero-*ℤ}
use Rattle.form_frac.specs.Fraction.{Fraction, IsLowest}
use Rattle.form_frac.specs.Weight.{brought, brought_sum, brought_sizes}
use Rattle.form_frac.proofs.Integers.{sum_times, nat_abs-times, nat_abs-sum}
use Rattle.form_frac.proofs.Within.{brought_further, size_further, quotient_some}

-- ---- what holds of each

pub all_of_both : {A : Type 0} (P : A → Type 0) (xs ys : List A) → AllByRecursion P xs → AllByRecursion P ys → AllByRecursion P (xs ++ ys)
all_of_both P [] ys h k = k
all_of_both P (x ∷ xs) ys h k = (h.0, all_of_both P xs ys h.1 k)

pub implied : {A : Type 0} (P Q : A → Type 0) → ((x : A) → P x → Q x) → (xs : List A) → AllByRecursion P xs → AllByRecursion Q xs
implied P Q so [] h = tt
implied P Q so (x ∷ xs) h = (so x h.0, implied P Q so xs h.1)

pub all_moved : {A : Type 0} (P : A → Type 0) (xs ys : List A) → IsPermutation xs ys → AllByRecursion P xs → AllByRecursion P ys
all_moved P xs ys p h = recursion_from_All P ys (All-permutation P xs ys p (All-from_recursion P xs h))

-- ---- sizes

pub sizes_cons : (k : ℕ) (f : Fraction) (fs : List Fraction) → brought_sizes k (f ∷ fs) ≡ nat_abs (brought k f) + brought_sizes k fs
sizes_cons k f fs = sum_by-cons (λ f. nat_abs (brought k f)) f fs

pub sizes_append : (k : ℕ) (fs gs : List Fraction) → brought_sizes k (fs ++ gs) ≡ brought_sizes k fs + brought_sizes k gs
sizes_append k fs gs = sum_by-append (λ f. nat_abs (brought k f)) fs gs

pub sizes_moved : (k : ℕ) (fs gs : List Fraction) → IsPermutation fs gs → brought_sizes k gs ≡ brought_sizes k fs
sizes_moved k fs gs p = sum_by-IsPermutation (λ f. nat_abs (brought k f)) fs gs p

pub sizes_further : (l k : ℕ) (fs : List Fraction) → AllByRecursion IsLowest fs → AllByRecursion (λ f. f.denominator ∣ l) fs → l ∣ k → brought_sizes k fs ≡ brought_sizes l fs * (k / l)
sizes_further l k [] h d q = sym (zero-mul (k / l))
sizes_further l k (f ∷ fs) h d q =
    sizes_cons k f fs
    ∙ ap₂ (λ (x y : ℕ). x + y) (ap nat_abs (brought_further f l k h.0.is_over_some d.0 q) ∙ nat_abs-times (brought l f) (pos (k / l))) (sizes_further l k fs h.1 d.1 q)
    ∙ sym (ap (λ (x : ℕ). x * (k / l)) (sizes_cons l f fs) ∙ add-mul (nat_abs (brought l f)) (brought_sizes l fs) (k / l))

-- ---- sums

pub sum_append : (k : ℕ) (fs gs : List Fraction) → brought_sum k (fs ++ gs) ≡ brought_sum k fs +ℤ brought_sum k gs
sum_append k [] gs = sym (+ℤ_idl (brought_sum k gs))
sum_append k (f ∷ fs) gs = ap (λ (x : ℤ). brought k f +ℤ x) (sum_append k fs gs) ∙ sym (+ℤ_assoc (brought k f) (brought_sum k fs) (brought_sum k gs))

pub sum_further : (l k : ℕ) (fs : List Fraction) → AllByRecursion IsLowest fs → AllByRecursion (λ f. f.denominator ∣ l) fs → l ∣ k → brought_sum k fs ≡ brought_sum l fs *ℤ pos (k / l)
sum_further l k [] h d q = sym (zero-*ℤ (pos (k / l)))
sum_further l k (f ∷ fs) h d q =
    ap₂ (λ (x y : ℤ). x +ℤ y) (brought_further f l k h.0.is_over_some d.0 q) (sum_further l k fs h.1 d.1 q) ∙ sym (sum_times (brought l f) (brought_sum l fs) (pos (k / l)))

pub sum_small : (k : ℕ) (fs : List Fraction) → nat_abs (brought_sum k fs) ≤ brought_sizes k fs
sum_small k [] = le_refl 0
sum_small k (f ∷ fs) =
    subst (λ (x : ℕ). nat_abs (brought k f +ℤ brought_sum k fs) ≤ x) (sym (sizes_cons k f fs))
    (le_trans (nat_abs-sum (brought k f) (brought_sum k fs)) (add-le-add (le_refl (nat_abs (brought k f))) (sum_small k fs)))

-- what is added and what is taken away, each by itself
abbrev ups : ℕ → List Fraction → ℕ
ups k fs = sum_by (λ f. up (brought k f)) fs

abbrev downs : ℕ → List Fraction → ℕ
downs k fs = sum_by (λ f. down (brought k f)) fs

one_more : (z s : ℤ) (u d : ℕ) → s ≡ pos u +ℤ neg_ℤ (pos d) → z +ℤ s ≡ pos (up z + u) +ℤ neg_ℤ (pos (down z + d))
one_more z s u d e = omega (arith, ints, e)

sum_parts : (k : ℕ) (fs : List Fraction) → brought_sum k fs ≡ pos (ups k fs) +ℤ neg_ℤ (pos (downs k fs))
sum_parts k [] = refl
sum_parts k (f ∷ fs) =
    one_more (brought k f) (brought_sum k fs) (ups k fs) (downs k fs) (sum_parts k fs)
    ∙ ap₂ (λ (x y : ℕ). pos x +ℤ neg_ℤ (pos y)) (sym (sum_by-cons (λ f. up (brought k f)) f fs)) (sym (sum_by-cons (λ f. down (brought k f)) f fs))

pub sum_moved : (k : ℕ) (fs gs : List Fraction) → IsPermutation fs gs → brought_sum k gs ≡ brought_sum k fs
sum_moved k fs gs p =
    sum_parts k gs
    ∙ ap₂ (λ (x y : ℕ). pos x +ℤ neg_ℤ (pos y)) (sum_by-IsPermutation (λ f. up (brought k f)) fs gs p) (sum_by-IsPermutation (λ f. down (brought k f)) fs gs p)
    ∙ sym (sum_parts k fs)

-- ---- how large each is

-- a fraction whose denominator divides a number, with a numerator of so much at most
pub record Fits (k n : ℕ) (f : Fraction) : Type 0 where
  pub lowest : IsLowest f
  pub divided : f.denominator ∣ k
  pub small : nat_abs f.numerator ≤ n

pub each_fits : (k n : ℕ) (fs : List Fraction) → 1 ≤ k → AllByRecursion IsLowest fs → AllByRecursion (λ f. f.denominator ∣ k) fs → brought_sizes k fs ≤ n → AllByRecursion (Fits k n) fs
each_fits k n [] some h d le = tt
each_fits k n (f ∷ fs) some h d le =
    let sizes : nat_abs (brought k f) + brought_sizes k fs ≤ n = subst (λ (x : ℕ). x ≤ n) (sizes_cons k f fs) le in
    let this : nat_abs f.numerator ≤ n =
    le_trans (size_further f.numerator (brought k f) (k / f.denominator) (quotient_some f.denominator k d.0 some) refl) (le_trans (le-add_right (nat_abs (brought k f)) (brought_sizes k fs)) sizes) in
    (record { lowest = h.0; divided = d.0; small = this }, each_fits k n fs some h.1 d.1 (le_trans (le-add_left (brought_sizes k fs) (nat_abs (brought k f))) sizes))
