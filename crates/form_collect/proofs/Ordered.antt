-- The entries of a map in the order of terms are what is collected.
use Rattle.std.proofs.Common.{◌≡◌, Bool, true, false, inl, inr, List, [], ◌∷◌, ◌++◌, map, Some, refl, ap, sym, ◌∙◌, subst, append_assoc, append-nil}
use Rattle.std.specs.Prelude.{pos, if◌then◌else◌, unwrap_or}
use Rattle.std.specs.List.{AllByRecursion, IsDistinct}
use Rattle.std.specs.List.Sorted.{IsPermutation, IsSortedBy, IsStrictlySortedBy}
use Rattle.std.specs.Map.{keys_of}
use Rattle.std.specs.Ordering.{is_lt}
use Rattle.std.specs.declared.cmp.Ordering.TheVariants.{Less}
use Rattle.std.proofs.lemmas.Cmp.{eq_by_cmp_equiv}
use Rattle.std.proofs.lemmas.List.Elements.{recursion_from_All}
use Rattle.std.proofs.lemmas.List.Sorted.{IsPermutation-sym, IsPermutation-map, All-permutation, Contains-permutation}
use Rattle.std.proofs.lemmas.Map.Keys.{IsDistinct-IsPermutation}
use Rattle.form_frac.specs.Fraction.{Fraction, whole, is_zero}
use Rattle.form_term.specs.Term.{Term, order}
use Rattle.form_term.specs.TermLaws.{order_total}
use Rattle.form_term.specs.declared.monomial.Monomial.{Monomial}
use Rattle.form_collect.specs.Collecting.{terms_of, coefficients_at, total, with_totals, collected}
use Rattle.form_collect.specs.Collector.{AreTotalsOf}
use Rattle.form_collect.specs.Keys.{term_order}
use Rattle.form_collect.proofs.Lists.{same, terms_rise}
use Rattle.form_collect.proofs.Places.{term_order_total}
use Rattle.form_collect.proofs.Members.{Member, member_from, contains_from, same_members, rises_from_sort}
use Rattle.form_collect.proofs.Sums.{IsTotal}

-- the entries as terms with their totals, those of total 0 left out
unfoldable pub monomials_of : List (Term × Fraction) → List Monomial
monomials_of [] = []
monomials_of (e ∷ es) = if is_zero e.1 then monomials_of es else record { coefficient = e.1; term = e.0 } ∷ monomials_of es

-- an entry of total 0 is left out
pub monomials_less : (t : Term) (c : Fraction) (es : List (Term × Fraction)) → is_zero c ≡ true → monomials_of ((t, c) ∷ es) ≡ monomials_of es
unfolding monomials_of
monomials_less t c es z = rw z refl

-- another entry is the next
pub monomials_more : (done : List Monomial) (t : Term) (c : Fraction) (es : List (Term × Fraction)) → is_zero c ≡ false → (done ++ record { coefficient = c; term = t } ∷ []) ++ monomials_of es ≡ done ++ monomials_of ((t, c) ∷ es)
unfolding monomials_of
monomials_more done t c es z = rw z (append_assoc done (record { coefficient = c; term = t } ∷ []) (monomials_of es))

-- all are made at the end
pub monomials_made : (done : List Monomial) (es : List (Term × Fraction)) → es ≡ [] → done ++ monomials_of es ≡ done
unfolding monomials_of
monomials_made done es e = rw e (append-nil done)

-- the entries of a list's terms, each with its total, are what is collected
with_entries : (list : List Monomial) (es : List (Term × Fraction)) → AllByRecursion (IsTotal list) es → with_totals list (keys_of es) ≡ Some (monomials_of es)
unfolding monomials_of
with_entries list [] h = refl
with_entries list (e ∷ es) h = rw (h.0, with_entries list es h.1) refl

-- what is above all keys is above all monomials
above_monomials : (t : Term) (es : List (Term × Fraction)) → AllByRecursion (λ u. order t u ≡ Less) (keys_of es) → AllByRecursion (λ (m : Monomial). order t m.term ≡ Less) (monomials_of es)
unfolding monomials_of
above_monomials t [] h = tt
above_monomials t (e ∷ es) h = step (is_zero e.1) (above_monomials t es h.1)
  where
    step : (b : Bool) → AllByRecursion (λ (m : Monomial). order t m.term ≡ Less) (monomials_of es) → AllByRecursion (λ (m : Monomial). order t m.term ≡ Less) (if b then monomials_of es else record { coefficient = e.1; term = e.0 } ∷ monomials_of es)
    step true rest = rest
    step false rest = (h.0, rest)

-- where the keys rise the monomials do
monomials_rise : (es : List (Term × Fraction)) → IsStrictlySortedBy order (keys_of es) → IsStrictlySortedBy term_order (monomials_of es)
unfolding monomials_of IsStrictlySortedBy
monomials_rise [] s = tt
monomials_rise (e ∷ es) s = step (is_zero e.1) (monomials_rise es s.1)
  where
    step : (b : Bool) → IsStrictlySortedBy term_order (monomials_of es) → IsStrictlySortedBy term_order (if b then monomials_of es else record { coefficient = e.1; term = e.0 } ∷ monomials_of es)
    step true rest = rest
    step false rest = (above_monomials e.0 es s.0, rest)

-- whether two monomials stand at one term
abbrev same_place : Monomial → Monomial → Bool
same_place a b = same a.term b.term

apart_monomials : (t : Term) (es : List (Term × Fraction)) → AllByRecursion (λ u. same t u ≡ false) (keys_of es) → AllByRecursion (λ (m : Monomial). same t m.term ≡ false) (monomials_of es)
unfolding monomials_of
apart_monomials t [] h = tt
apart_monomials t (e ∷ es) h = step (is_zero e.1) (apart_monomials t es h.1)
  where
    step : (b : Bool) → AllByRecursion (λ (m : Monomial). same t m.term ≡ false) (monomials_of es) → AllByRecursion (λ (m : Monomial). same t m.term ≡ false) (if b then monomials_of es else record { coefficient = e.1; term = e.0 } ∷ monomials_of es)
    step true rest = rest
    step false rest = (h.0, rest)

-- where the keys are distinct the monomials stand at distinct terms
monomials_distinct : (es : List (Term × Fraction)) → IsDistinct same (keys_of es) → IsDistinct same_place (monomials_of es)
unfolding monomials_of IsDistinct
monomials_distinct [] s = tt
monomials_distinct (e ∷ es) s = step (is_zero e.1) (monomials_distinct es s.1)
  where
    step : (b : Bool) → IsDistinct same_place (monomials_of es) → IsDistinct same_place (if b then monomials_of es else record { coefficient = e.1; term = e.0 } ∷ monomials_of es)
    step true rest = rest
    step false rest = (apart_monomials e.0 es s.0, rest)

-- a monomial is made of an entry that isn't 0
entry_from : (m : Monomial) (es : List (Term × Fraction)) → Member m (monomials_of es) → Member (m.term, m.coefficient) es × (is_zero m.coefficient ≡ false)
unfolding monomials_of Member
entry_from m [] h = absurd h
entry_from m (e ∷ es) h = step (is_zero e.1) refl h (entry_from m es)
  where
    step : (b : Bool) → is_zero e.1 ≡ b → Member m (if b then monomials_of es else record { coefficient = e.1; term = e.0 } ∷ monomials_of es) → (Member m (monomials_of es) → Member (m.term, m.coefficient) es × (is_zero m.coefficient ≡ false)) → Member (m.term, m.coefficient) (e ∷ es) × (is_zero m.coefficient ≡ false)
    step true z h rest = let (i, n) = rest h in (inr i, n)
    step false z (inl e) rest = (inl (λ i. ((e i).term, (e i).coefficient)), ap (λ (m : Monomial). is_zero m.coefficient) (sym e) ∙ z)
    step false z (inr h) rest = let (i, n) = rest h in (inr i, n)

monomial_from : (m : Monomial) (es : List (Term × Fraction)) → Member (m.term, m.coefficient) es → is_zero m.coefficient ≡ false → Member m (monomials_of es)
unfolding monomials_of Member
monomial_from m [] h n = absurd h
monomial_from m (e ∷ es) h n = step (is_zero e.1) refl h (monomial_from m es)
  where
    step : (b : Bool) → is_zero e.1 ≡ b → Member (m.term, m.coefficient) (e ∷ es) → (Member (m.term, m.coefficient) es → is_zero m.coefficient ≡ false → Member m (monomials_of es)) → Member m (if b then monomials_of es else record { coefficient = e.1; term = e.0 } ∷ monomials_of es)
    step true z (inl e) rest = let f : true ≡ false = sym z ∙ ap (λ (x : Term × Fraction). is_zero x.1) e ∙ n in absurd (cc)
    step true z (inr h) rest = rest h n
    step false z (inl e) rest = inl (λ i. record { coefficient = (e i).1; term = (e i).0 })
    step false z (inr h) rest = inr (rest h n)

-- a term with its total in a list
entry_at : List Monomial → Term → Term × Fraction
entry_at list t = (t, unwrap_or (total (coefficients_at t list)) (whole (pos 0)))

-- the entries are those of their keys
entries_again : (list : List Monomial) (es : List (Term × Fraction)) → AllByRecursion (IsTotal list) es → map (entry_at list) (keys_of es) ≡ es
unfolding entry_at
entries_again list [] h = refl
entries_again list (e ∷ es) h = rw (h.0, entries_again list es h.1) refl

keys_again : (list : List Monomial) (us : List Term) → keys_of (map (entry_at list) us) ≡ us
unfolding entry_at
keys_again list [] = refl
keys_again list (u ∷ us) = rw (keys_again list us) refl

-- the monomials of the entries, put in the order of terms, are what is collected
pub collected_from_sorted : (es : List (Term × Fraction)) (list : List Monomial) (ms : List Monomial) → IsDistinct same (keys_of es) → AreTotalsOf es list → IsPermutation (monomials_of es) ms → IsSortedBy (λ a b. is_lt (term_order a b)) ms → collected list ≡ Some ms
unfolding collected
collected_from_sorted es list ms apart h moved sorted =
    let us = terms_of list in
    let fs = map (entry_at list) us in
    let keys : keys_of fs ≡ us = keys_again list us in
    let same_entries : IsPermutation fs es = subst (λ (xs : List (Term × Fraction)). IsPermutation fs xs) (entries_again list es (recursion_from_All (IsTotal list) es h.totals)) (IsPermutation-map (entry_at list) us (keys_of es) h.terms) in
    let back : IsPermutation es fs = IsPermutation-sym fs es same_entries in
    let totals = recursion_from_All (IsTotal list) fs (All-permutation (IsTotal list) es fs back h.totals) in
    let rises : IsStrictlySortedBy term_order (monomials_of fs) = monomials_rise fs (subst (λ (xs : List Term). IsStrictlySortedBy order xs) (sym keys) (terms_rise list)) in
    let distinct = IsDistinct-IsPermutation same_place (λ a b. (eq_by_cmp_equiv order_total).symm a.term b.term) (monomials_of es) ms moved (monomials_distinct es apart) in
    let one : ms ≡ monomials_of fs = same_members term_order_total ms (monomials_of fs) (rises_from_sort term_order_total ms sorted distinct) rises
    (λ z m. let (i, n) = entry_from z es (member_from z (monomials_of es) (Contains-permutation ms (monomials_of es) z (IsPermutation-sym (monomials_of es) ms moved) (contains_from z ms m))) in monomial_from z fs (member_from (z.term, z.coefficient) fs (Contains-permutation es fs (z.term, z.coefficient) back (contains_from (z.term, z.coefficient) es i))) n)
    (λ z m. let (i, n) = entry_from z fs m in member_from z ms (Contains-permutation (monomials_of es) ms z moved (contains_from z (monomials_of es) (monomial_from z es (member_from (z.term, z.coefficient) es (Contains-permutation fs es (z.term, z.coefficient) same_entries (contains_from (z.term, z.coefficient) fs i))) n)))) in
    ap (with_totals list) (sym keys) ∙ with_entries list fs totals ∙ ap Some (sym one)
