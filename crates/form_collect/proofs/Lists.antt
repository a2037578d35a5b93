-- Lists, their terms, and the coefficients at each.
use Rattle.std.proofs.Common.{◌≡◌, Bool, true, false, ◌||◌, List, [], ◌∷◌, ◌++◌, map, Option, Some, None, refl, ap, ◌∙◌, append-nil}
use Rattle.std.specs.Prelude.{if◌then◌else◌, filter, fold, option_and_then}
use Rattle.std.specs.List.{list_any, AllByRecursion}
use Rattle.std.specs.List.Sorted.{IsPermutation, IsStrictlySortedBy}
use Rattle.std.specs.Ordering.{is_eq, eq_by_cmp, match_ordering, ordering_reverse}
use Rattle.std.specs.declared.cmp.Ordering.{Ordering}
use Rattle.std.specs.declared.cmp.Ordering.TheVariants.{Less, Equal, Greater}
use Rattle.std.proofs.lemmas.Cmp.{alike_right}
use Rattle.std.proofs.lemmas.List.{map-append}
use Rattle.std.proofs.lemmas.List.Elements.{filter-append, filter_agree}
use Rattle.std.proofs.lemmas.List.Sorted.{IsPermutation-refl, IsPermutation-cons, IsPermutation-trans, IsPermutation-middle}
use Rattle.std.proofs.lemmas.Bool.{or_parts}
use Rattle.std.proofs.lemmas.List.Sums.{fold-append}
use Rattle.std.proofs.lemmas.List.Folds.{fold_stays}
use Rattle.form_frac.specs.Fraction.{Fraction, add, is_zero}
use Rattle.form_term.specs.Term.{Term, order}
use Rattle.form_term.specs.TermLaws.{order_total}
use Rattle.form_term.specs.declared.monomial.Monomial.{Monomial}
use Rattle.form_collect.specs.Collecting.{with_term, terms_of, coefficients_at, total, with_totals, collected}

-- whether two terms are one
abbrev pub same : Term → Term → Bool
same = eq_by_cmp order

-- whether a term is among these
abbrev pub has : Term → List Term → Bool
has t us = list_any (same t) us

-- whether a summand of a list stands at a term
abbrev pub occurs : Term → List Monomial → Bool
occurs t list = list_any (λ m. same t m.term) list

or_again : (a b c : Bool) → a ≡ b → (b || c) ≡ (a || (b || c))
or_again true true c e = refl
or_again false false c e = refl
or_again true false c e = cc
or_again false true c e = cc

or_swap : (a b c : Bool) → (b || (a || c)) ≡ (a || (b || c))
or_swap true true c = refl
or_swap true false c = refl
or_swap false true c = refl
or_swap false false c = refl

-- a term that is put among others is there then, and the others stay
has-with_term : (t u : Term) (us : List Term) → has t (with_term u us) ≡ (same t u || has t us)
has-with_term t u [] = refl
has-with_term t u (v ∷ vs) = step (order u v) refl (has-with_term t u vs)
  where
    step : (r : Ordering) → order u v ≡ r → has t (with_term u vs) ≡ (same t u || has t vs) → has t (match_ordering r (u ∷ v ∷ vs) (v ∷ vs) (v ∷ with_term u vs)) ≡ (same t u || (same t v || has t vs))
    step Less e rest = refl
    step Equal e rest = or_again (same t u) (same t v) (has t vs) (ap is_eq (alike_right order_total u v t e))
    step Greater e rest = ap (λ b. same t v || b) rest ∙ or_swap (same t u) (same t v) (has t vs)

-- the terms of a list are those at which a summand stands
has-terms_from : (t : Term) (us : List Term) (list : List Monomial) → has t (fold (λ ts m. with_term m.term ts) us list) ≡ (has t us || occurs t list)
has-terms_from t us [] = or_false (has t us)
  where
    or_false : (b : Bool) → b ≡ (b || false)
    or_false true = refl
    or_false false = refl
has-terms_from t us (m ∷ ms) = has-terms_from t (with_term m.term us) ms ∙ ap (λ b. b || occurs t ms) (has-with_term t m.term us) ∙ regroup (same t m.term) (has t us) (occurs t ms)
  where
    regroup : (a b c : Bool) → ((a || b) || c) ≡ (b || (a || c))
    regroup true true c = refl
    regroup true false c = refl
    regroup false true c = refl
    regroup false false c = refl

pub has-terms_of : (t : Term) (list : List Monomial) → has t (terms_of list) ≡ occurs t list
unfolding terms_of
has-terms_of t list = has-terms_from t [] list

-- one more summand puts its term among the terms
pub terms_of_more : (list : List Monomial) (m : Monomial) → terms_of (list ++ m ∷ []) ≡ with_term m.term (terms_of list)
unfolding terms_of
terms_of_more list m = fold-append (λ ts m. with_term m.term ts) [] list (m ∷ [])

-- a term below the first of others
above_all : (t u : Term) (us : List Term) → order t u ≡ Less → AllByRecursion (λ v. order u v ≡ Less) us → AllByRecursion (λ v. order t v ≡ Less) us
above_all t u [] e h = tt
above_all t u (v ∷ vs) e h = (order_total.trans t u v e h.0, above_all t u vs e h.1)

-- terms that rise go on rising
rises_with : (t : Term) (us : List Term) → IsStrictlySortedBy order us → IsStrictlySortedBy order (with_term t us)
unfolding IsStrictlySortedBy
rises_with t [] s = (tt, tt)
rises_with t (u ∷ us) s = step (order t u) refl (rises_with t us s.1)
  where
    stays_above : (vs : List Term) → order u t ≡ Less → AllByRecursion (λ v. order u v ≡ Less) vs → AllByRecursion (λ v. order u v ≡ Less) (with_term t vs)
    stays_above [] e h = (e, tt)
    stays_above (v ∷ vs) e h = put (order t v) (stays_above vs e h.1)
      where
        put : (r : Ordering) → AllByRecursion (λ v. order u v ≡ Less) (with_term t vs) → AllByRecursion (λ v. order u v ≡ Less) (match_ordering r (t ∷ v ∷ vs) (v ∷ vs) (v ∷ with_term t vs))
        put Less rest = (e, h)
        put Equal rest = h
        put Greater rest = (h.0, rest)

    step : (r : Ordering) → order t u ≡ r → IsStrictlySortedBy order (with_term t us) → IsStrictlySortedBy order (match_ordering r (t ∷ u ∷ us) (u ∷ us) (u ∷ with_term t us))
    step Less e rest = ((e, above_all t u us e s.0), s)
    step Equal e rest = s
    step Greater e rest = (stays_above us (order_total.antisymm u t ∙ ap ordering_reverse e) s.0, rest)

rise_from : (us : List Term) (list : List Monomial) → IsStrictlySortedBy order us → IsStrictlySortedBy order (fold (λ ts m. with_term m.term ts) us list)
rise_from us [] s = s
rise_from us (m ∷ ms) s = rise_from (with_term m.term us) ms (rises_with m.term us s)

-- the terms of a list rise
pub terms_rise : (list : List Monomial) → IsStrictlySortedBy order (terms_of list)
unfolding terms_of IsStrictlySortedBy
terms_rise list = rise_from [] list tt

-- a term below all of these isn't among them
absent_above : (t : Term) (us : List Term) → AllByRecursion (λ v. order t v ≡ Less) us → has t us ≡ false
absent_above t [] h = refl
absent_above t (u ∷ us) h = rw h.0 (absent_above t us h.1)

-- a term that is among others already
pub with_term_present : (t : Term) (us : List Term) → IsStrictlySortedBy order us → has t us ≡ true → with_term t us ≡ us
unfolding IsStrictlySortedBy
with_term_present t [] s h = refl_from h
  where
    refl_from : false ≡ true → t ∷ [] ≡ []
    refl_from e = cc
with_term_present t (u ∷ us) s h = step (order t u) refl h (with_term_present t us s.1)
  where
    step : (r : Ordering) → order t u ≡ r → (is_eq r || has t us) ≡ true → (has t us ≡ true → with_term t us ≡ us) → match_ordering r (t ∷ u ∷ us) (u ∷ us) (u ∷ with_term t us) ≡ u ∷ us
    step Less e h rest = let none = absent_above t us (above_all t u us e s.0) in absurd (cc)
    step Equal e h rest = refl
    step Greater e h rest = ap (λ vs. u ∷ vs) (rest h)

-- a term that isn't among others yet is one more
pub with_term_absent : (t : Term) (us : List Term) → has t us ≡ false → IsPermutation (t ∷ us) (with_term t us)
with_term_absent t [] h = IsPermutation-refl (t ∷ [])
with_term_absent t (u ∷ us) h = step (order t u) refl (with_term_absent t us (or_parts (same t u) (has t us) h).1)
  where
    step : (r : Ordering) → order t u ≡ r → IsPermutation (t ∷ us) (with_term t us) → IsPermutation (t ∷ u ∷ us) (match_ordering r (t ∷ u ∷ us) (u ∷ us) (u ∷ with_term t us))
    step Less e rest = IsPermutation-refl (t ∷ u ∷ us)
    step Equal e rest = let here : same t u ≡ true = ap is_eq e in let none = (or_parts (same t u) (has t us) h).0 in absurd (cc)
    step Greater e rest = IsPermutation-trans (t ∷ u ∷ us) (u ∷ t ∷ us) (u ∷ with_term t us) (IsPermutation-middle (t ∷ []) u us) (IsPermutation-cons u (t ∷ us) (with_term t us) rest)

-- no coefficient stands at a term that does not occur
pub none_stand : (t : Term) (list : List Monomial) → occurs t list ≡ false → coefficients_at t list ≡ []
none_stand t [] e = refl
none_stand t (m ∷ ms) e = step (same t m.term) refl e (none_stand t ms)
  where
    step : (b : Bool) → same t m.term ≡ b → (b || occurs t ms) ≡ false → (occurs t ms ≡ false → coefficients_at t ms ≡ []) → coefficients_at t (m ∷ ms) ≡ []
    step true s h rest = cc
    step false s h rest = rw s (rest h)

-- some coefficient stands at a term that occurs
pub some_stand : (t : Term) (list : List Monomial) → occurs t list ≡ true → (c : Fraction) × (cs : List Fraction) × (coefficients_at t list ≡ c ∷ cs)
some_stand t [] e = absurd (cc)
some_stand t (m ∷ ms) e = step (same t m.term) refl e (some_stand t ms)
  where
    step : (b : Bool) → same t m.term ≡ b → (b || occurs t ms) ≡ true → (occurs t ms ≡ true → (c : Fraction) × (cs : List Fraction) × (coefficients_at t ms ≡ c ∷ cs)) → (c : Fraction) × (cs : List Fraction) × (coefficients_at t (m ∷ ms) ≡ c ∷ cs)
    step true s h rest = (m.coefficient, coefficients_at t ms, rw s refl)
    step false s h rest = let (c, cs, there) = rest h in (c, cs, rw s there)

-- the coefficients of two lists joined
coefficients_at-append : (t : Term) (list more : List Monomial) → coefficients_at t (list ++ more) ≡ coefficients_at t list ++ coefficients_at t more
coefficients_at-append t list more = rw filter-append (map-append (λ (m : Monomial). m.coefficient) (filter (λ m. same t m.term) list) (filter (λ m. same t m.term) more))

-- at one term stand the same coefficients, however it is written
pub coefficients_alike : (t u : Term) (list : List Monomial) → order t u ≡ Equal → coefficients_at t list ≡ coefficients_at u list
coefficients_alike t u list e = ap (map (λ (m : Monomial). m.coefficient)) (filter_agree (λ (m : Monomial). same t m.term) (λ (m : Monomial). same u m.term) (λ m. ap is_eq (order_total.congr t u m.term e)) list)

-- one more coefficient, in an open total
abbrev pub plus : Option Fraction → Fraction → Option Fraction
plus sum f = option_and_then (λ a. add a f) sum

-- one more coefficient at others
total_push : (cs : List Fraction) (c : Fraction) → (d : Fraction) × (ds : List Fraction) × (cs ≡ d ∷ ds) → total (cs ++ c ∷ []) ≡ plus (total cs) c
total_push [] c (d, ds, e) = absurd (cc)
total_push (x ∷ xs) c some = fold-append plus (Some x) xs (c ∷ [])

-- a total that overflows does so however it goes on
total_stays : (cs more : List Fraction) → total cs ≡ None → total (cs ++ more) ≡ None
total_stays [] more e = absurd (cc)
total_stays (x ∷ xs) more e = fold-append plus (Some x) xs more ∙ rw e (fold_stays plus None (λ f. refl) more)

-- one more summand at a term that occurs
pub total_here : (t : Term) (list : List Monomial) (m : Monomial) → occurs t list ≡ true → order t m.term ≡ Equal → total (coefficients_at t (list ++ m ∷ [])) ≡ plus (total (coefficients_at t list)) m.coefficient
total_here t list m some e = rw (coefficients_at-append, e) (total_push (coefficients_at t list) m.coefficient (some_stand t list some))

-- the first summand at a term
pub total_first : (t : Term) (list : List Monomial) (m : Monomial) → occurs t list ≡ false → order t m.term ≡ Equal → total (coefficients_at t (list ++ m ∷ [])) ≡ Some m.coefficient
total_first t list m none e = rw (coefficients_at-append, none_stand t list none, e) refl

-- one more summand at another term
pub total_apart : (t : Term) (list : List Monomial) (m : Monomial) → same t m.term ≡ false → total (coefficients_at t (list ++ m ∷ [])) ≡ total (coefficients_at t list)
total_apart t list m e = rw (coefficients_at-append, e, append-nil) refl

-- a term with its total before the others, if that isn't 0
abbrev pub joined : Term → Fraction → List Monomial → Option (List Monomial)
joined t c rest = Some (if is_zero c then rest else record { coefficient = c; term = t } ∷ rest)

-- a total that overflows leaves nothing to collect
overflows : (list : List Monomial) (t : Term) (us : List Term) → total (coefficients_at t list) ≡ None → has t us ≡ true → with_totals list us ≡ None
overflows list t [] e h = cc
overflows list t (u ∷ us) e h = step (order t u) refl h (overflows list t us e)
  where
    none_left : {A B C : Type 0} (x : Option A) (f : A → B → Option C) → option_and_then (λ a. option_and_then (f a) None) x ≡ None
    none_left None f = refl
    none_left (Some a) f = refl

    step : (r : Ordering) → order t u ≡ r → (is_eq r || has t us) ≡ true → (has t us ≡ true → with_totals list us ≡ None) → with_totals list (u ∷ us) ≡ None
    step Less o h rest = rw (rest h) (none_left (total (coefficients_at u list)) (joined u))
    step Equal o h rest = rw (← coefficients_alike t u list o, e) refl
    step Greater o h rest = rw (rest h) (none_left (total (coefficients_at u list)) (joined u))

-- a term that occurs in the front of a list occurs in it
pub occurs_within : (t : Term) (front more : List Monomial) → occurs t front ≡ true → occurs t (front ++ more) ≡ true
occurs_within t [] more h = absurd (cc)
occurs_within t (n ∷ ns) more h = step (same t n.term) h (occurs_within t ns more)
  where
    step : (b : Bool) → (b || occurs t ns) ≡ true → (occurs t ns ≡ true → occurs t (ns ++ more) ≡ true) → (b || occurs t (ns ++ more)) ≡ true
    step true h rest = refl
    step false h rest = rest h

-- one term occurs where the other does
pub occurs_alike : (t u : Term) (list : List Monomial) → order t u ≡ Equal → occurs t list ≡ occurs u list
occurs_alike t u [] e = refl
occurs_alike t u (m ∷ ms) e = rw (occurs_alike t u ms e) (ap (λ (r : Ordering). is_eq r || occurs u ms) (order_total.congr t u m.term e))

-- a sum that overflows on the way overflows however the list goes on
pub collected_overflows : (t : Term) (list more : List Monomial) → occurs t list ≡ true → total (coefficients_at t list) ≡ None → collected (list ++ more) ≡ None
unfolding collected
collected_overflows t list more some e =
    let at : total (coefficients_at t (list ++ more)) ≡ None = rw (coefficients_at-append t list more) (total_stays (coefficients_at t list) (coefficients_at t more) e) in
    overflows (list ++ more) t (terms_of (list ++ more)) at (has-terms_of t (list ++ more) ∙ occurs_within t list more some)
