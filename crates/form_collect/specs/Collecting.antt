-- Collecting: equal terms come together, and their coefficients are added from left to right.
use Rattle.std.specs.Prelude.{pos, List, [], ◌∷◌, map, filter, fold, Option, Some, option_and_then, if◌then◌else◌}
use Rattle.std.specs.Ordering.{eq_by_cmp, match_ordering}
use Rattle.form_frac.specs.Fraction.{Fraction, whole, add, is_zero}
use Rattle.form_term.specs.Term.{Term, order}
use Rattle.form_term.specs.declared.monomial.Monomial.{Monomial}

-- a term put among others that rise, where it isn't there yet
abbrev pub with_term : Term → List Term → List Term
with_term t [] = t ∷ []
with_term t (u ∷ us) = match_ordering (order t u) (t ∷ u ∷ us) (u ∷ us) (u ∷ with_term t us)

-- the distinct terms of a list, in the order of terms
unfoldable pub terms_of : List Monomial → List Term
terms_of list = fold (λ ts m. with_term m.term ts) [] list

-- the coefficients that stand at a term, in list order
abbrev pub coefficients_at : Term → List Monomial → List Fraction
coefficients_at t list = map (λ m. m.coefficient) (filter (λ m. eq_by_cmp order t m.term) list)

-- The left fold by `add`, 0 without coefficients; none where an addition overflows.
abbrev pub total : List Fraction → Option Fraction
total [] = Some (whole (pos 0))
total (c ∷ cs) = fold (λ sum f. option_and_then (λ a. add a f) sum) (Some c) cs

-- these terms with their totals, those of total 0 left out; none where a total overflows
abbrev pub with_totals : List Monomial → List Term → Option (List Monomial)
with_totals list [] = Some []
with_totals list (t ∷ ts) =
    option_and_then (λ c. option_and_then (λ rest. Some (if is_zero c then rest else record { coefficient = c; term = t } ∷ rest)) (with_totals list ts)) (total (coefficients_at t list))

-- The collected list: each distinct term in the order of terms, with the left fold of its coefficients in list order.
unfoldable pub collected : List Monomial → Option (List Monomial)
collected list = with_totals list (terms_of list)
