-- The values of a lawful condition may be written somewhere.
use Rattle.std.proofs.Common.{◌≡◌, inl, inr, ℕ, zero, suc, List, [], ◌∷◌, ◌++◌, subst, sym, ◌∙◌, ap}
use Rattle.std.specs.Prelude.{All, flat_map}
use Rattle.std.proofs.lemmas.List.Elements.{All-nil, All-cons, All-head, All-tail, All-append, All-weaker}
use Rattle.form_base.specs.Condition.{values_of_test}
use Rattle.form_base.specs.declared.comparison.Comparison.{Comparison}
use Rattle.form_base.specs.declared.condition.Test.TheVariants.{Nonzero, Compared, Parenthesis}
use Rattle.form_base.proofs.Conditions.{values_alone, values_compared, values_parenthesis}
use Rattle.form_ast.specs.Conditions.{Condition, Test}
use Rattle.form_ast.specs.Lawful.{opened_at, IsLawfulAlone, IsLawfulComparison, IsLawfulParenthesis, AreLawfulAlternatives, IsLawfulTest, IsLawfulCondition}
use Rattle.form_ast.specs.declared.condition.Value.{Value}
use Rattle.form_check.specs.Carried.{IsWrittenValue}

abbrev pub AreWritten : Test → Type 0
AreWritten t = All IsWrittenValue (values_of_test t)

abbrev pub AreAllWritten : List Test → Type 0
AreAllWritten ts = All AreWritten ts

abbrev AreValues : List Value → Type 0
AreValues vs = All IsWrittenValue vs

all_joined : {A : Type 0} (f : A → List Value) (xs : List A) → All (λ x. AreValues (f x)) xs → AreValues (flat_map f xs)
all_joined f [] h = All-nil IsWrittenValue
all_joined f (x ∷ xs) h =
    All-append IsWrittenValue (f x) (flat_map f xs) (All-head (λ x. AreValues (f x)) x xs h) (all_joined f xs (All-tail (λ x. AreValues (f x)) x xs h))

alone_written : (deeper : ℕ) (t : Test) → IsLawfulAlone deeper t → AreWritten t
alone_written deeper t h =
    subst AreWritten (sym h.is) (subst AreValues (sym (values_alone h.value)) (All-cons IsWrittenValue h.value [] (opened_at deeper, h.lawful) (All-nil IsWrittenValue)))

comparison_written : (deeper : ℕ) (t : Test) → IsLawfulComparison deeper t → AreWritten t
comparison_written deeper t h =
    subst AreWritten (sym h.is)
    (subst AreValues (sym (values_compared h.value h.comparison h.other))
    (All-cons IsWrittenValue h.value (h.other ∷ []) (opened_at deeper, h.lawful.0) (All-cons IsWrittenValue h.other [] (opened_at deeper, h.lawful.1) (All-nil IsWrittenValue))))

alternatives_written : (Lawful : Test → Type 0) → ((t : Test) → Lawful t → AreWritten t) → (c : Condition) → AreLawfulAlternatives Lawful c → All AreAllWritten c
alternatives_written Lawful written c h =
    All-weaker (λ ts. (ts ≡ [] → ⊥) × All Lawful ts) AreAllWritten (λ ts k. All-weaker Lawful AreWritten written ts k.1) c h.1

parenthesis_written : (Lawful : Test → Type 0) → ((t : Test) → Lawful t → AreWritten t) → (t : Test) → IsLawfulParenthesis (AreLawfulAlternatives Lawful) t → AreWritten t
parenthesis_written Lawful written t h =
    let all = alternatives_written Lawful written h.condition h.lawful in
    subst AreWritten (sym h.is)
    (subst AreValues (sym (values_parenthesis h.condition))
    (all_joined (flat_map values_of_test) h.condition (All-weaker AreAllWritten (λ ts. AreValues (flat_map values_of_test ts)) (λ ts k. all_joined values_of_test ts k) h.condition all)))

test_written : (deeper : ℕ) (t : Test) → IsLawfulTest deeper t → AreWritten t
unfolding IsLawfulTest
test_written zero t (inl h) = alone_written zero t h
test_written zero t (inr h) = comparison_written zero t h
test_written (suc deeper) t (inl h) = alone_written (suc deeper) t h
test_written (suc deeper) t (inr (inl h)) = comparison_written (suc deeper) t h
test_written (suc deeper) t (inr (inr h)) = parenthesis_written (IsLawfulTest deeper) (λ u k. test_written deeper u k) t h

pub condition_written : (c : Condition) → IsLawfulCondition c → All AreAllWritten c
condition_written c h = alternatives_written (IsLawfulTest 63) (λ u k. test_written 63 u k) c h

-- ---- what is written in a test

rest_written : (xs ys : List Value) → AreValues (xs ++ ys) → AreValues xs × AreValues ys
rest_written [] ys h = (All-nil IsWrittenValue, h)
rest_written (x ∷ xs) ys h =
    let more = rest_written xs ys (All-tail IsWrittenValue x (xs ++ ys) h) in
    (All-cons IsWrittenValue x xs (All-head IsWrittenValue x (xs ++ ys) h) more.0, more.1)

each_written : {A : Type 0} (f : A → List Value) (xs : List A) → AreValues (flat_map f xs) → All (λ x. AreValues (f x)) xs
each_written f [] h = All-nil (λ x. AreValues (f x))
each_written f (x ∷ xs) h =
    let parts = rest_written (f x) (flat_map f xs) h in
    All-cons (λ x. AreValues (f x)) x xs parts.0 (each_written f xs parts.1)

pub alone_value : (t : Test) (v : Value) → AreWritten t → t ≡ Nonzero v → IsWrittenValue v
alone_value t v h e = All-head IsWrittenValue v [] (subst AreValues (ap values_of_test e ∙ values_alone v) h)

pub compared_values : (t : Test) (v : Value) (by : Comparison) (w : Value) → AreWritten t → t ≡ Compared v by w → IsWrittenValue v × IsWrittenValue w
compared_values t v by w h e =
    let all = subst AreValues (ap values_of_test e ∙ values_compared v by w) h in
    (All-head IsWrittenValue v (w ∷ []) all, All-head IsWrittenValue w [] (All-tail IsWrittenValue v (w ∷ []) all))

pub parenthesis_values : (t : Test) (c : Condition) → AreWritten t → t ≡ Parenthesis c → All AreAllWritten c
parenthesis_values t c h e =
    All-weaker (λ ts. AreValues (flat_map values_of_test ts)) AreAllWritten (λ ts k. each_written values_of_test ts k) c
    (each_written (flat_map values_of_test) c (subst AreValues (ap values_of_test e ∙ values_parenthesis c) h))
