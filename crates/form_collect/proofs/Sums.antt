-- What a map's entries stand for, as the list goes on.
use Rattle.std.proofs.Common.{◌≡◌, Bool, true, false, cond, List, [], ◌∷◌, ◌++◌, Option, Some, None, refl, ap, sym, subst, ◌∙◌}
use Rattle.std.specs.Prelude.{is_some, pos, MatchOption}
use Rattle.std.specs.Option.{unwrap_or}
use Rattle.std.specs.List.{AllByRecursion, IsDistinct}
use Rattle.std.specs.List.Sorted.{IsPermutation}
use Rattle.std.specs.Map.{keys_of, lookup, set_value}
use Rattle.std.specs.declared.cmp.Ordering.TheVariants.{Equal}
use Rattle.std.specs.Cmp.{Equal-is}
use Rattle.std.proofs.lemmas.Cmp.{tied_itself, eq_by_cmp_equiv}
use Rattle.std.proofs.lemmas.List.Elements.{All-from_recursion, recursion_from_All}
use Rattle.std.proofs.lemmas.List.Sorted.{IsPermutation-cons, IsPermutation-trans, IsPermutation-sym, IsPermutation-map, All-permutation, list_any-IsPermutation}
use Rattle.std.proofs.lemmas.Map.{keys-set_value}
use Rattle.std.proofs.lemmas.Map.Made.{is_some-lookup}
use Rattle.std.proofs.lemmas.Map.Keys.{IsDistinct-head, IsDistinct-tail}
use Rattle.form_frac.specs.Fraction.{Fraction, IsLowest, whole, add}
use Rattle.form_term.specs.Term.{Term, order}
use Rattle.form_term.specs.TermLaws.{order_total}
use Rattle.form_term.specs.declared.monomial.Monomial.{Monomial}
use Rattle.form_collect.specs.Collecting.{with_term, terms_of, coefficients_at, total, collected}
use Rattle.form_collect.specs.Collector.{AreTotalsOf}
use Rattle.form_collect.proofs.Lists.{same, has, occurs, plus, has-terms_of, terms_of_more, terms_rise, with_term_present, with_term_absent, coefficients_alike, total_here, total_first, total_apart, occurs_within, occurs_alike, collected_overflows}
use Rattle.form_collect.proofs.Zero.{zero_add}

-- an entry has the total of the coefficients at its term
abbrev pub IsTotal : List Monomial → Term × Fraction → Type 0
IsTotal list e = total (coefficients_at e.0 list) ≡ Some e.1

same_back : (t u : Term) → same t u ≡ same u t
same_back = (eq_by_cmp_equiv order_total).symm

equal_from : (t u : Term) → same t u ≡ true → order t u ≡ Equal
equal_from t u e = (Equal-is (order t u)).0 e

-- the keys have a term exactly where it occurs in the list
pub has_keys : (t : Term) (es : List (Term × Fraction)) (list : List Monomial) → AreTotalsOf es list → has t (keys_of es) ≡ occurs t list
has_keys t es list h = sym (list_any-IsPermutation (same t) (terms_of list) (keys_of es) h.terms) ∙ has-terms_of t list

-- a look-up finds a term exactly where it occurs in the list
pub found : (t : Term) (es : List (Term × Fraction)) (list : List Monomial) → AreTotalsOf es list → is_some (lookup (same t) es) ≡ occurs t list
found t es list h = is_some-lookup (same t) es ∙ has_keys t es list h

-- a look-up that finds nothing passes no key
none_passes : (t : Term) (es : List (Term × Fraction)) → lookup (same t) es ≡ None → AllByRecursion (λ k. same t k ≡ false) (keys_of es)
none_passes t [] h = tt
none_passes t (e ∷ es) h = step (same t e.0) refl h (none_passes t es)
  where
    step : (b : Bool) → same t e.0 ≡ b → cond b (Some e.1) (lookup (same t) es) ≡ None → (lookup (same t) es ≡ None → AllByRecursion (λ k. same t k ≡ false) (keys_of es)) → AllByRecursion (λ k. same t k ≡ false) (keys_of (e ∷ es))
    step true s h rest = absurd (cc)
    step false s h rest = (s, rest h)

module _ (list : List Monomial) (m : Monomial) where
  -- entries at other terms keep their totals
  kept : (es : List (Term × Fraction)) → AllByRecursion (λ k. same m.term k ≡ false) (keys_of es) → AllByRecursion (IsTotal list) es → AllByRecursion (IsTotal (list ++ m ∷ [])) es
  kept [] apart h = tt
  kept (e ∷ es) apart h = (total_apart e.0 list m (same_back e.0 m.term ∙ apart.0) ∙ h.0, kept es apart.1 h.1)

  -- the entry that a look-up finds has the total
  total_found : (es : List (Term × Fraction)) (v : Fraction) → AllByRecursion (IsTotal list) es → lookup (same m.term) es ≡ Some v → total (coefficients_at m.term list) ≡ Some v
  total_found [] v h e = absurd (cc)
  total_found (f ∷ es) v h e = step (same m.term f.0) refl e (total_found es v h.1)
    where
      step : (b : Bool) → same m.term f.0 ≡ b → cond b (Some f.1) (lookup (same m.term) es) ≡ Some v → (lookup (same m.term) es ≡ Some v → total (coefficients_at m.term list) ≡ Some v) → total (coefficients_at m.term list) ≡ Some v
      step true s e rest = ap total (coefficients_alike m.term f.0 list (equal_from m.term f.0 s)) ∙ h.0 ∙ e
      step false s e rest = rest e

  -- the entry that a look-up finds gets the raised total
  raised : (es : List (Term × Fraction)) (v w : Fraction) → occurs m.term list ≡ true → IsDistinct same (keys_of es) → AllByRecursion (IsTotal list) es → lookup (same m.term) es ≡ Some v → add v m.coefficient ≡ Some w
      → AllByRecursion (IsTotal (list ++ m ∷ [])) (set_value (same m.term) es w)
  raised [] v w some apart h e sum = tt
  raised (f ∷ es) v w some apart h e sum = step (same m.term f.0) refl e (λ e. raised es v w some (IsDistinct-tail same f.0 (keys_of es) apart) h.1 e sum)
    where
      others : (ks : List Term) → same m.term f.0 ≡ true → AllByRecursion (λ k. same f.0 k ≡ false) ks → AllByRecursion (λ k. same m.term k ≡ false) ks
      others [] s h = tt
      others (k ∷ ks) s h = ((eq_by_cmp_equiv order_total).congr m.term f.0 k s ∙ h.0, others ks s h.1)

      step : (b : Bool) → same m.term f.0 ≡ b → cond b (Some f.1) (lookup (same m.term) es) ≡ Some v → (lookup (same m.term) es ≡ Some v → AllByRecursion (IsTotal (list ++ m ∷ [])) (set_value (same m.term) es w))
          → AllByRecursion (IsTotal (list ++ m ∷ [])) (cond b ((f.0, w) ∷ es) (f ∷ set_value (same m.term) es w))
      step true s e rest =
          let at = equal_from f.0 m.term (same_back f.0 m.term ∙ s) in
          let value : f.1 ≡ v = cc in
          let was : total (coefficients_at f.0 list) ≡ Some v = h.0 ∙ ap Some value in (
            total_here f.0 list m (occurs_alike f.0 m.term list at ∙ some) at ∙ ap (λ (x : Option Fraction). plus x m.coefficient) was ∙ sum,
            kept es (others (keys_of es) s (IsDistinct-head same f.0 (keys_of es) apart)) h.1,
          )
      step false s e rest = (total_apart f.0 list m (same_back f.0 m.term ∙ s) ∙ h.0, rest e)

  -- one more summand at a term whose total a look-up finds
  pub totals_raised : (es ns : List (Term × Fraction)) (v w : Fraction) → IsDistinct same (keys_of es) → lookup (same m.term) es ≡ Some v → add v m.coefficient ≡ Some w → ns ≡ set_value (same m.term) es w → keys_of ns ≡ keys_of es → AreTotalsOf es list → AreTotalsOf ns (list ++ m ∷ [])
  totals_raised es ns v w apart e sum made keys h =
      let some : occurs m.term list ≡ true = sym (found m.term es list h) ∙ ap is_some e in
      let there : has m.term (terms_of list) ≡ true = has-terms_of m.term list ∙ some in
      let terms : terms_of (list ++ m ∷ []) ≡ terms_of list = terms_of_more list m ∙ with_term_present m.term (terms_of list) (terms_rise list) there in
      record {
        terms = rw (terms, keys) h.terms;
        totals = rw made (All-from_recursion (IsTotal (list ++ m ∷ [])) (set_value (same m.term) es w) (raised es v w some apart (recursion_from_All (IsTotal list) es h.totals) e sum));
      }

  -- the first summand at a term
  pub totals_added : (es ns : List (Term × Fraction)) → lookup (same m.term) es ≡ None → IsPermutation ((m.term, m.coefficient) ∷ es) ns → AreTotalsOf es list → AreTotalsOf ns (list ++ m ∷ [])
  totals_added es ns e made h =
      let none : occurs m.term list ≡ false = sym (found m.term es list h) ∙ ap is_some e in
      let absent : has m.term (terms_of list) ≡ false = has-terms_of m.term list ∙ none in
      let first : IsTotal (list ++ m ∷ []) (m.term, m.coefficient) = total_first m.term list m none (tied_itself order_total m.term) in
      record {
        terms = rw (terms_of_more list m) (IsPermutation-trans (with_term m.term (terms_of list)) (m.term ∷ terms_of list) (keys_of ns) (IsPermutation-sym (m.term ∷ terms_of list) (with_term m.term (terms_of list)) (with_term_absent m.term (terms_of list) absent))
            (IsPermutation-trans (m.term ∷ terms_of list) (m.term ∷ keys_of es) (keys_of ns) (IsPermutation-cons m.term (terms_of list) (keys_of es) h.terms) (IsPermutation-map (λ (e : Term × Fraction). e.0) ((m.term, m.coefficient) ∷ es) ns made)));
        totals = All-permutation (IsTotal (list ++ m ∷ [])) ((m.term, m.coefficient) ∷ es) ns made (All-from_recursion (IsTotal (list ++ m ∷ [])) ((m.term, m.coefficient) ∷ es) (first, kept es (none_passes m.term es e) (recursion_from_All (IsTotal list) es h.totals)));
      }

  -- a summand with which a total overflows
  pub total_overflows : (es : List (Term × Fraction)) (v : Fraction) → lookup (same m.term) es ≡ Some v → add v m.coefficient ≡ None → AreTotalsOf es list → (more : List Monomial) → collected ((list ++ m ∷ []) ++ more) ≡ None
  total_overflows es v e sum h more =
      let some : occurs m.term list ≡ true = sym (found m.term es list h) ∙ ap is_some e in
      let was = total_found es v (recursion_from_All (IsTotal list) es h.totals) e in
      collected_overflows m.term (list ++ m ∷ []) more (occurs_within m.term list (m ∷ []) some) (total_here m.term list m some (tied_itself order_total m.term) ∙ ap (λ (x : Option Fraction). plus x m.coefficient) was ∙ sum)

  -- one more summand at a term, whose total is raised from 0 where it has none yet
  pub totals_put : (es ns : List (Term × Fraction)) (old : Option Fraction) (v w : Fraction) → IsLowest m.coefficient → IsDistinct same (keys_of es) → old ≡ lookup (same m.term) es → v ≡ unwrap_or old (whole (pos 0)) → add v m.coefficient ≡ Some w
      → MatchOption old (IsPermutation ((m.term, w) ∷ es) ns) (λ _. ns ≡ set_value (same m.term) es w) → AreTotalsOf es list → AreTotalsOf ns (list ++ m ∷ [])
  totals_put es ns None v w lowest apart e f sum put h =
      let both : Some w ≡ Some m.coefficient = sym sum ∙ ap (λ (x : Fraction). add x m.coefficient) f ∙ zero_add m.coefficient lowest in
      let first : w ≡ m.coefficient = cc in
      totals_added es ns (sym e) (subst (λ (x : Fraction). IsPermutation ((m.term, x) ∷ es) ns) first put) h
  totals_put es ns (Some u) v w lowest apart e f sum put h =
      totals_raised es ns v w apart (sym e ∙ ap Some (sym f)) sum put (ap keys_of put ∙ keys-set_value (same m.term) es w) h

  -- only one that is there overflows
  pub put_overflows : (es : List (Term × Fraction)) (old : Option Fraction) (v : Fraction) → IsLowest m.coefficient → old ≡ lookup (same m.term) es → v ≡ unwrap_or old (whole (pos 0)) → add v m.coefficient ≡ None → AreTotalsOf es list → (more : List Monomial) → collected ((list ++ m ∷ []) ++ more) ≡ None
  put_overflows es None v lowest e f sum h more =
      let both : Some m.coefficient ≡ None = sym (zero_add m.coefficient lowest) ∙ ap (λ (x : Fraction). add x m.coefficient) (sym f) ∙ sum in
      absurd (cc)
  put_overflows es (Some u) v lowest e f sum h more = total_overflows es v (sym e ∙ ap Some (sym f)) sum h more
