-- Collected terms rise, and none has the coefficient 0.
use Rattle.std.proofs.Common.{◌≡◌, Bool, true, false, List, [], ◌∷◌, Option, Some, None, ◌⊎◌, inl, inr, refl, sym, subst}
use Rattle.std.specs.Prelude.{All, option_and_then, if◌then◌else◌}
use Rattle.std.specs.List.{AllByRecursion}
use Rattle.std.specs.List.Sorted.{IsStrictlySortedBy}
use Rattle.std.specs.Ordering.{on}
use Rattle.std.specs.declared.cmp.Ordering.TheVariants.{Less}
use Rattle.std.proofs.lemmas.Option.{same_Some}
use Rattle.std.proofs.lemmas.List.Elements.{All-from_recursion}
use Rattle.form_frac.specs.Fraction.{Fraction, is_zero}
use Rattle.form_term.specs.Term.{Term, order}
use Rattle.form_term.specs.declared.monomial.Monomial.{Monomial}
use Rattle.form_collect.specs.Collecting.{terms_of, coefficients_at, total, with_totals, collected}
use Rattle.form_collect.proofs.Lists.{terms_rise}

-- A further term stands before the rest with its total, which isn't 0, or is left out.
record Stands (t : Term) (ms rest : List Monomial) : Type 0 where
  total : Fraction
  present : is_zero total ≡ false
  is : ms ≡ record { coefficient = total; term = t } ∷ rest

record Further (list : List Monomial) (t : Term) (ts : List Term) (ms : List Monomial) : Type 0 where
  rest : List Monomial
  others : with_totals list ts ≡ Some rest
  first : (ms ≡ rest) ⊎ Stands t ms rest

further : (list : List Monomial) (t : Term) (ts : List Term) (ms : List Monomial) → with_totals list (t ∷ ts) ≡ Some ms → Further list t ts ms
further list t ts ms e = step (total (coefficients_at t list)) (with_totals list ts) refl e
  where
    kept : (rest : List Monomial) → with_totals list ts ≡ Some rest → (c : Fraction) (b : Bool) → is_zero c ≡ b → Some (if b then rest else record { coefficient = c; term = t } ∷ rest) ≡ Some ms → Further list t ts ms
    kept rest h c true z f = record { rest = rest; others = h; first = inl (sym (same_Some rest ms f)) }
    kept rest h c false z f = record { rest = rest; others = h; first = inr (record { total = c; present = z; is = sym (same_Some (record { coefficient = c; term = t } ∷ rest) ms f) }) }

    step : (o : Option Fraction) (r : Option (List Monomial)) → with_totals list ts ≡ r → option_and_then (λ c. option_and_then (λ rest. Some (if is_zero c then rest else record { coefficient = c; term = t } ∷ rest)) r) o ≡ Some ms → Further list t ts ms
    step None r h f = absurd (cc)
    step (Some c) None h f = absurd (cc)
    step (Some c) (Some rest) h f = kept rest h c (is_zero c) refl f

none_from : (list ms : List Monomial) → with_totals list [] ≡ Some ms → [] ≡ ms
none_from list ms e = same_Some [] ms e

-- what holds of each of the terms holds of those that are collected
module _ (list : List Monomial) (P : Term → Type 0) where
  terms_kept : (ts : List Term) (ms : List Monomial) → with_totals list ts ≡ Some ms → AllByRecursion P ts → AllByRecursion (λ m. P m.term) ms
  terms_kept [] ms e h = subst (λ xs. AllByRecursion (λ m. P m.term) xs) (none_from list ms e) tt
  terms_kept (t ∷ ts) ms e h =
      let f = further list t ts ms e in
      at f.rest f.first (terms_kept ts f.rest f.others h.1)
    where
      at : (rest : List Monomial) → (ms ≡ rest) ⊎ Stands t ms rest → AllByRecursion (λ m. P m.term) rest → AllByRecursion (λ m. P m.term) ms
      at rest (inl s) all = subst (λ xs. AllByRecursion (λ m. P m.term) xs) (sym s) all
      at rest (inr s) all = subst (λ xs. AllByRecursion (λ m. P m.term) xs) (sym s.is) (h.0, all)

module _ (list : List Monomial) where
  rise : (ts : List Term) (ms : List Monomial) → with_totals list ts ≡ Some ms → IsStrictlySortedBy order ts → IsStrictlySortedBy (on (λ m. m.term) order) ms
  unfolding IsStrictlySortedBy
  rise [] ms e h = subst (IsStrictlySortedBy (on (λ m. m.term) order)) (none_from list ms e) tt
  rise (t ∷ ts) ms e h =
      let f = further list t ts ms e in
      at f.rest f.first (rise ts f.rest f.others h.1) (terms_kept list (λ u. order t u ≡ Less) ts f.rest f.others h.0)
    where
      at : (rest : List Monomial) → (ms ≡ rest) ⊎ Stands t ms rest → IsStrictlySortedBy (on (λ m. m.term) order) rest → AllByRecursion (λ m. order t m.term ≡ Less) rest → IsStrictlySortedBy (on (λ m. m.term) order) ms
      at rest (inl s) sorted above = subst (IsStrictlySortedBy (on (λ m. m.term) order)) (sym s) sorted
      at rest (inr s) sorted above = subst (IsStrictlySortedBy (on (λ m. m.term) order)) (sym s.is) (above, sorted)

  present : (ts : List Term) (ms : List Monomial) → with_totals list ts ≡ Some ms → AllByRecursion (λ m. is_zero m.coefficient ≡ false) ms
  present [] ms e = subst (λ xs. AllByRecursion (λ m. is_zero m.coefficient ≡ false) xs) (none_from list ms e) tt
  present (t ∷ ts) ms e =
      let f = further list t ts ms e in
      at f.rest f.first (present ts f.rest f.others)
    where
      at : (rest : List Monomial) → (ms ≡ rest) ⊎ Stands t ms rest → AllByRecursion (λ m. is_zero m.coefficient ≡ false) rest → AllByRecursion (λ m. is_zero m.coefficient ≡ false) ms
      at rest (inl s) all = subst (λ xs. AllByRecursion (λ m. is_zero m.coefficient ≡ false) xs) (sym s) all
      at rest (inr s) all = subst (λ xs. AllByRecursion (λ m. is_zero m.coefficient ≡ false) xs) (sym s.is) (s.present, all)

pub collected_rise : (list terms : List Monomial) → collected list ≡ Some terms → IsStrictlySortedBy (on (λ m. m.term) order) terms
unfolding collected
collected_rise list terms e = rise list (terms_of list) terms e (terms_rise list)

pub collected_present : (list terms : List Monomial) → collected list ≡ Some terms → All (λ m. is_zero m.coefficient ≡ false) terms
unfolding collected
collected_present list terms e = All-from_recursion (λ (m : Monomial). is_zero m.coefficient ≡ false) terms (present list (terms_of list) terms e)
