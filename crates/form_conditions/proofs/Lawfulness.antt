-- What is written as a condition is a lawful one.
use Rattle.std.proofs.Common.{◌≢◌, inl, inr, ℕ, zero, suc, ◌<◌, List, [], ◌∷◌, arith}
use Rattle.std.specs.Prelude.{All}
use Rattle.std.proofs.lemmas.List.Elements.{All-nil, All-cons}
use Rattle.form_ast.specs.declared.condition.Value as by_value
use Rattle.form_ast.specs.declared.condition.Value.TheVariants as values
use Rattle.form_ast.specs.Conditions.{Condition, Test}
use Rattle.form_ast.specs.Lawful.{most_open, opened_at, IsLawfulValue, AreLawfulAlternatives, IsLawfulTest, IsLawfulCondition}
use Rattle.form_grammar.specs.declared.terminal.Terminal.{Terminal}
use Rattle.form_grammar.specs.declared.terminal.Terminal.TheVariants as by_terminal
use Rattle.form_conditions.specs.Grammar.{AreJoined, IsNameText, IsWeightedText, IsValueText, AreAlternativesText, IsTestText, IsConditionText, within_condition}

room : (deeper : ℕ) → 0 < deeper → opened_at deeper < most_open
room deeper h = omega (arith, h)

joined_all : {A : Type 0} (Text : A → List Terminal → Type 0) (m : Terminal) (Lawful : A → Type 0) → ((x : A) (text : List Terminal) → Text x text → Lawful x)
    → (xs : List A) (text : List Terminal) → AreJoined Text m xs text → (xs ≢ []) × All Lawful xs
joined_all Text m Lawful gives [] text h = absurd h
joined_all Text m Lawful gives (x ∷ []) text h = ((λ e. cc), All-cons Lawful x [] (gives x text h) (All-nil Lawful))
joined_all Text m Lawful gives (x ∷ y ∷ more) text h =
    ((λ e. cc), All-cons Lawful x (y ∷ more) (gives x h.front h.is_left) (joined_all Text m Lawful gives (y ∷ more) h.back h.is_right).1)

joined_some : {A : Type 0} (Text : A → List Terminal → Type 0) (m : Terminal) (xs : List A) (text : List Terminal) → AreJoined Text m xs text → xs ≢ []
joined_some Text m [] text h = absurd h
joined_some Text m (x ∷ more) text h = λ e. cc

value_lawful : (deeper : ℕ) (v : by_value.Value) (text : List Terminal) → IsValueText deeper v text → IsLawfulValue (opened_at deeper) v
value_lawful deeper (values.Number sign n d) text h = h.0
value_lawful deeper values.Coefficient text h = tt
value_lawful deeper (values.Count ws) text h = (room deeper h.0, joined_some IsWeightedText by_terminal.Comma ws h.2.inner h.2.is_inner, h.1)
value_lawful deeper (values.Match pattern) text h =
    let p = h.1.is_inner in
    (room deeper h.0, record { tree = p.tree; lawful = p.lawful; is_pattern = p.pattern; pieces = p.kept })
value_lawful deeper (values.Occurs ns) text h = (room deeper h.0, joined_some IsNameText by_terminal.Comma ns h.1.inner h.1.is_inner)

alternatives_lawful : (Text : Test → List Terminal → Type 0) (Lawful : Test → Type 0) → ((t : Test) (text : List Terminal) → Text t text → Lawful t)
    → (c : Condition) (text : List Terminal) → AreAlternativesText Text c text → AreLawfulAlternatives Lawful c
alternatives_lawful Text Lawful gives c text h =
    joined_all (AreJoined Text by_terminal.And) by_terminal.Or (λ tests. (tests ≢ []) × All Lawful tests) (λ tests inner k. joined_all Text by_terminal.And Lawful gives tests inner k) c text h

test_lawful : (deeper : ℕ) (t : Test) (text : List Terminal) → IsTestText deeper t text → IsLawfulTest deeper t
unfolding IsTestText IsLawfulTest
test_lawful zero t text (inl h) = inl (record { value = h.value; lawful = value_lawful zero h.value text h.is_value; is = h.is })
test_lawful zero t text (inr h) =
    inr (record {
      value = h.value;
      comparison = h.comparison;
      other = h.other;
      lawful = (value_lawful zero h.value h.parted.front h.parted.is_left, value_lawful zero h.other h.parted.back h.parted.is_right);
      is = h.is;
    })
test_lawful (suc deeper) t text (inl h) = inl (record { value = h.value; lawful = value_lawful (suc deeper) h.value text h.is_value; is = h.is })
test_lawful (suc deeper) t text (inr (inl h)) =
    inr (inl (record {
      value = h.value;
      comparison = h.comparison;
      other = h.other;
      lawful = (value_lawful (suc deeper) h.value h.parted.front h.parted.is_left, value_lawful (suc deeper) h.other h.parted.back h.parted.is_right);
      is = h.is;
    }))
test_lawful (suc deeper) t text (inr (inr h)) =
    inr (inr (record {
      condition = h.condition;
      lawful = alternatives_lawful (IsTestText deeper) (IsLawfulTest deeper) (λ u inner k. test_lawful deeper u inner k) h.condition h.enclosed.inner h.enclosed.is_inner;
      is = h.is;
    }))

pub lawful : (terminals : List Terminal) (c : Condition) → IsConditionText terminals c → IsLawfulCondition c
lawful terminals c h = alternatives_lawful (IsTestText within_condition) (IsLawfulTest within_condition) (λ u inner k. test_lawful within_condition u inner k) c h.inner h.is_inner
