-- A condition that doesn't ask for the coefficient holds of a term whatever its coefficient.
use Rattle.std.proofs.Common.{◌≡◌, Bool, true, false, not, ◌&&◌, ◌||◌, List, [], ◌∷◌, map, refl, sym, ap, subst, ◌∙◌}
use Rattle.std.specs.Prelude.{flat_map}
use Rattle.std.specs.List.{AllByRecursion, list_all, list_any}
use Rattle.form_base.specs.declared.comparison.Comparison.{Comparison}
use Rattle.form_base.specs.declared.condition.Test.{ind-Test, map-Test}
use Rattle.form_base.specs.declared.condition.Test.TheOpen.{Test-F}
use Rattle.form_base.specs.declared.condition.Test.TheVariants.{Nonzero, Compared, Parenthesis, rolls-Nonzero, rolls-Compared, rolls-Parenthesis}
use Rattle.form_base.specs.declared.condition.Test.TheViews.{roll-Test}
use Rattle.form_base.specs.Condition.{values_of_test}
use Rattle.form_base.proofs.Conditions.{holds_alone, holds_compared, values_alone, values_compared, values_parenthesis}
use Rattle.form_frac.specs.Fraction.{Fraction, compare, is_zero}
use Rattle.form_term.specs.Term.{Term}
use Rattle.form_tree.specs.Condition.{Alternatives, Test}
use Rattle.form_tree.specs.declared.condition.Value.{Value}
use Rattle.form_tree.specs.declared.condition.Value.TheVariants as values
use Rattle.form_cond.specs.Condition.{Ready, value_of, is_so, is_true, is_compared, test_holds, holds}
use Rattle.form_cond.proofs.Inside.{any-flat_map}
use Rattle.form_cond.proofs.Tested.{parenthesis}
use Rattle.form_levels.specs.Asks.{is_coefficient, asks_of_test, asks_coefficient}

neither : (a b : Bool) → (a || b) ≡ false → (a ≡ false) × (b ≡ false)
neither true b e = absurd cc
neither false b e = (refl, e)

pub asked_in : (a : Alternatives) → asks_coefficient a ≡ list_any (list_any asks_of_test) a
asked_in a = any-flat_map is_coefficient (list_any asks_of_test) (flat_map values_of_test) (λ ts. any-flat_map is_coefficient asks_of_test values_of_test (λ t. refl) ts) a

-- in parentheses
pub asked_inside : (a : Alternatives) → asks_of_test (Parenthesis a) ≡ list_any (list_any asks_of_test) a
asked_inside a = ap (list_any is_coefficient) (values_parenthesis a) ∙ asked_in a

module _ (rs : List Ready) (c d : Fraction) (t : Term) where
  same_value : (v : Value) → is_coefficient v ≡ false → value_of rs v c t ≡ value_of rs v d t
  same_value values.Coefficient e = absurd cc
  same_value (values.Number x) e = refl
  same_value (values.Count ws) e = refl
  same_value (values.Match k) e = refl
  same_value (values.Occurs ns) e = refl

  abbrev IsSame : Test → Type 0
  IsSame test = asks_of_test test ≡ false → test_holds rs c t test ≡ test_holds rs d t test

  same_alone : (v : Value) → IsSame (Nonzero v)
  same_alone v e =
      let never = neither (is_coefficient v) false (ap (list_any is_coefficient) (sym (values_alone v)) ∙ e) in
      holds_alone (λ w. is_true rs w c t) (λ w by x. is_compared rs w by x c t) v
      ∙ ap (λ x. not (is_zero x)) (same_value v never.0)
      ∙ sym (holds_alone (λ w. is_true rs w d t) (λ w by x. is_compared rs w by x d t) v)

  same_compared : (v : Value) (by : Comparison) (w : Value) → IsSame (Compared v by w)
  same_compared v by w e =
      let first = neither (is_coefficient v) (is_coefficient w || false) (ap (list_any is_coefficient) (sym (values_compared v by w)) ∙ e) in
      let second = neither (is_coefficient w) false first.1 in
      holds_compared (λ x. is_true rs x c t) (λ x op y. is_compared rs x op y c t) v by w
      ∙ ap (λ x. is_so by (compare x (value_of rs w c t))) (same_value v first.0)
      ∙ ap (λ x. is_so by (compare (value_of rs v d t) x)) (same_value w second.0)
      ∙ sym (holds_compared (λ x. is_true rs x d t) (λ x op y. is_compared rs x op y d t) v by w)

  same_all : (ts : List Test) → AllByRecursion IsSame ts → list_any asks_of_test ts ≡ false → list_all (test_holds rs c t) ts ≡ list_all (test_holds rs d t) ts
  same_all [] h e = refl
  same_all (x ∷ ts) h e =
      let never = neither (asks_of_test x) (list_any asks_of_test ts) e in
      ap (λ b. b && list_all (test_holds rs c t) ts) (h.0 never.0) ∙ ap (λ b. test_holds rs d t x && b) (same_all ts h.1 never.1)

  same_holds : (a : Alternatives) → AllByRecursion (AllByRecursion IsSame) a → list_any (list_any asks_of_test) a ≡ false → holds rs a c t ≡ holds rs a d t
  same_holds [] h e = refl
  same_holds (ts ∷ a) h e =
      let never = neither (list_any asks_of_test ts) (list_any (list_any asks_of_test) a) e in
      ap (λ b. b || holds rs a c t) (same_all ts h.0 never.0) ∙ ap (λ b. list_all (test_holds rs d t) ts || b) (same_holds a h.1 never.1)

  same_parenthesis : (a : Alternatives) → AllByRecursion (AllByRecursion IsSame) a → IsSame (Parenthesis a)
  same_parenthesis a h e =
      parenthesis rs c t a
      ∙ same_holds a h (sym (asked_inside a) ∙ e)
      ∙ sym (parenthesis rs d t a)

  -- ---- each test

  abbrev Shown : Type 0
  Shown = (test : Test) × IsSame test

  abbrev test_of : Shown → Test
  test_of s = s.0

  shown : (ss : List Shown) → AllByRecursion IsSame (map test_of ss)
  shown [] = tt
  shown (s ∷ ss) = (s.1, shown ss)

  all_shown : (sss : List (List Shown)) → AllByRecursion (AllByRecursion IsSame) (map (map test_of) sss)
  all_shown [] = tt
  all_shown (ss ∷ sss) = (shown ss, all_shown sss)

  by_step : (y : Test-F Value Shown) → IsSame (roll-Test Value (map-Test Value Shown Test test_of y))
  by_step (Test-F.Nonzero v) = subst IsSame (sym (rolls-Nonzero v)) (same_alone v)
  by_step (Test-F.Compared v by w) = subst IsSame (sym (rolls-Compared v by w)) (same_compared v by w)
  by_step (Test-F.Parenthesis a) = subst IsSame (sym (rolls-Parenthesis (map (map test_of) a))) (same_parenthesis (map (map test_of) a) (all_shown a))

  same_test : (test : Test) → IsSame test
  same_test = ind-Test Value IsSame (λ x y is. subst (λ (z : Test-F Value Test). IsSame (roll-Test Value z)) is (by_step y))

  every_same : (ts : List Test) → AllByRecursion IsSame ts
  every_same [] = tt
  every_same (x ∷ ts) = (same_test x, every_same ts)

  all_same : (a : Alternatives) → AllByRecursion (AllByRecursion IsSame) a
  all_same [] = tt
  all_same (ts ∷ a) = (every_same ts, all_same a)

  pub holds_whatever : (a : Alternatives) → asks_coefficient a ≡ false → holds rs a c t ≡ holds rs a d t
  holds_whatever a e = same_holds a (all_same a) (sym (asked_in a) ∙ e)
