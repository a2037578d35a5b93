-- What is collected of terms of expressions is an expression.
use Rattle.std.proofs.Common.{◌≡◌, Bool, true, false, List, [], ◌∷◌, filter, fold, if◌then◌else◌, Option, Some, None, option_and_then, refl, sym, subst, ◌∙◌}
use Rattle.std.specs.Prelude.{pos}
use Rattle.std.specs.List.{AllByRecursion}
use Rattle.std.specs.Ordering.{eq_by_cmp, match_ordering}
use Rattle.std.specs.declared.cmp.Ordering.{Ordering}
use Rattle.std.specs.declared.cmp.Ordering.TheVariants.{Less, Equal, Greater}
use Rattle.std.proofs.lemmas.Option.{same_Some, none-some}
use Rattle.std.proofs.lemmas.List.Elements.{All-from_recursion}
use Rattle.form_frac.specs.Fraction.{Fraction, IsLowest, whole, add, is_zero}
use Rattle.form_term.specs.declared.monomial.Monomial.{Monomial}
use Rattle.form_term.specs.Monomial.{summands_of}
use Rattle.form_term.specs.Term.{Term, Summand, IsTerm, expression, order}
use Rattle.form_term.specs.Named.{Places, IsNamed, IsSoundArgument, IsSummand}
use Rattle.form_term.proofs.Coefficients.{zero_is_lowest, sum_is_lowest}
use Rattle.form_term.proofs.Each.{each_filter, each_map, each_weaker}
use Rattle.form_term.proofs.Nesting.{IsSummandLawful, expression_lawful}
use Rattle.form_collect.specs.Collecting.{with_term, terms_of, coefficients_at, total, with_totals, collected}
use Rattle.form_collect.proofs.Collected.{collected_rise, collected_present}

-- ---- the terms of a list

module _ (P : Term → Type 0) where
  each_with : (t : Term) (us : List Term) → P t → AllByRecursion P us → AllByRecursion P (with_term t us)
  each_with t [] h k = (h, tt)
  each_with t (u ∷ us) h k = step (order t u) (each_with t us h k.1)
    where
      step : (r : Ordering) → AllByRecursion P (with_term t us) → AllByRecursion P (match_ordering r (t ∷ u ∷ us) (u ∷ us) (u ∷ with_term t us))
      step Less rest = (h, k)
      step Equal rest = k
      step Greater rest = (k.0, rest)

  each_put : (us : List Term) (list : List Monomial) → AllByRecursion P us → AllByRecursion (λ (m : Monomial). P m.term) list → AllByRecursion P (fold (λ ts m. with_term m.term ts) us list)
  each_put us [] h k = h
  each_put us (m ∷ ms) h k = each_put (with_term m.term us) ms (each_with m.term us k.0 h) k.1

  each_term : (list : List Monomial) → AllByRecursion (λ (m : Monomial). P m.term) list → AllByRecursion P (terms_of list)
  unfolding terms_of
  each_term list h = each_put [] list tt h

-- ---- their totals

abbrev sum_by : Option Fraction → Fraction → Option Fraction
sum_by sum f = option_and_then (λ (a : Fraction). add a f) sum

none_stays : (cs : List Fraction) → fold sum_by None cs ≡ None
none_stays [] = refl
none_stays (c ∷ cs) = none_stays cs

added : (cs : List Fraction) (c f : Fraction) → IsLowest c → AllByRecursion IsLowest cs → fold sum_by (Some c) cs ≡ Some f → IsLowest f
added [] c f h all e = subst IsLowest (same_Some c f e) h
added (d ∷ cs) c f h all e = by (add c d) refl (λ s k g. added cs s f k all.1 g) e
  where
    by : (o : Option Fraction) → add c d ≡ o → ((s : Fraction) → IsLowest s → fold sum_by (Some s) cs ≡ Some f → IsLowest f) → fold sum_by o cs ≡ Some f → IsLowest f
    by None g rest k = absurd (none-some f (sym (none_stays cs) ∙ k))
    by (Some s) g rest k = rest s (sum_is_lowest c d s h all.0 g) k

total_lowest : (cs : List Fraction) (f : Fraction) → AllByRecursion IsLowest cs → total cs ≡ Some f → IsLowest f
total_lowest [] f h e = subst IsLowest (same_Some (whole (pos 0)) f e) zero_is_lowest
total_lowest (c ∷ cs) f h e = added cs c f h.0 h.1 e

abbrev HasLowest : Monomial → Type 0
HasLowest m = IsLowest m.coefficient

lowest_at : (t : Term) (list : List Monomial) → AllByRecursion HasLowest list → AllByRecursion IsLowest (coefficients_at t list)
lowest_at t list h =
    each_map HasLowest IsLowest (λ (m : Monomial). m.coefficient) (λ m k. k) (filter (λ (m : Monomial). eq_by_cmp order t m.term) list)
    (each_filter HasLowest (λ (m : Monomial). eq_by_cmp order t m.term) list h)

module _ (P : Term → Type 0) (list : List Monomial) (lowest : AllByRecursion HasLowest list) where
  abbrev IsMade : Monomial → Type 0
  IsMade m = P m.term × IsLowest m.coefficient × (is_zero m.coefficient ≡ false)

  each_made : (ts : List Term) (ms : List Monomial) → with_totals list ts ≡ Some ms → AllByRecursion P ts → AllByRecursion IsMade ms
  each_made [] ms e h = subst (λ (xs : List Monomial). AllByRecursion IsMade xs) (same_Some [] ms e) tt
  each_made (t ∷ ts) ms e h = by (total (coefficients_at t list)) (with_totals list ts) refl (λ rest f. each_made ts rest f h.1) e
    where
      kept : (c : Fraction) (rest : List Monomial) → total (coefficients_at t list) ≡ Some c → AllByRecursion IsMade rest → (b : Bool) → is_zero c ≡ b
          → Some (if b then rest else record { coefficient = c; term = t } ∷ rest) ≡ Some ms → AllByRecursion IsMade ms
      kept c rest g all true z f = subst (λ (xs : List Monomial). AllByRecursion IsMade xs) (same_Some rest ms f) all
      kept c rest g all false z f =
          subst (λ (xs : List Monomial). AllByRecursion IsMade xs) (same_Some (record { coefficient = c; term = t } ∷ rest) ms f)
          ((h.0, total_lowest (coefficients_at t list) c (lowest_at t list lowest) g, z), all)

      by : (o : Option Fraction) (r : Option (List Monomial)) → total (coefficients_at t list) ≡ o → ((rest : List Monomial) → r ≡ Some rest → AllByRecursion IsMade rest)
          → option_and_then (λ c. option_and_then (λ rest. Some (if is_zero c then rest else record { coefficient = c; term = t } ∷ rest)) r) o ≡ Some ms → AllByRecursion IsMade ms
      by None r g others f = absurd (cc)
      by (Some c) None g others f = absurd (cc)
      by (Some c) (Some rest) g others f = kept c rest g (others rest refl) (is_zero c) refl f

-- ---- together

-- what holds of each term of a list holds of those that are collected
pub collected_terms : (P : Term → Type 0) (list terms : List Monomial) → AllByRecursion HasLowest list → AllByRecursion (λ (m : Monomial). P m.term) list → collected list ≡ Some terms
    → AllByRecursion (λ (m : Monomial). P m.term) terms
unfolding collected
collected_terms P list terms lowest h e =
    each_weaker (IsMade P list lowest) (λ (m : Monomial). P m.term) (λ m k. k.0) terms (each_made P list lowest (terms_of list) terms e (each_term P list h))

module _ (names : Places) where
  abbrev IsLawfulNamed : Term → Type 0
  IsLawfulNamed t = IsNamed names t × IsTerm t

  pub collected_summands : (list terms : List Monomial) → AllByRecursion (IsSummand names) list → collected list ≡ Some terms → AllByRecursion (IsSummand names) terms
  unfolding collected
  collected_summands list terms h e =
      let lowest = each_weaker (IsSummand names) HasLowest (λ m k. k.lowest) list h in
      let lawful = each_weaker (IsSummand names) (λ (m : Monomial). IsLawfulNamed m.term) (λ m k. (k.named, k.lawful)) list h in
      each_weaker (IsMade IsLawfulNamed list lowest) (IsSummand names) (λ m k. record { named = k.0.0; lawful = k.0.1; lowest = k.1; present = k.2 }) terms
      (each_made IsLawfulNamed list lowest (terms_of list) terms e (each_term IsLawfulNamed list lawful))

  -- and an argument
  pub collected_argument : (list terms : List Monomial) → AllByRecursion (IsSummand names) list → collected list ≡ Some terms → IsSoundArgument names (expression (summands_of terms))
  collected_argument list terms h e =
      let all = collected_summands list terms h e in
      let lawful = All-from_recursion IsSummandLawful terms (each_weaker (IsSummand names) IsSummandLawful (λ m k. (k.lowest, k.lawful)) terms all) in (
        expression_lawful terms (collected_rise list terms e) (collected_present list terms e) lawful,
        each_map (IsSummand names) (λ (s : Summand). IsNamed names s.term) (λ m. record { coefficient = m.coefficient; term = m.term }) (λ m k. k.named) terms all,
      )
