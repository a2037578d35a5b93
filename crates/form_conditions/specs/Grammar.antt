-- The grammar of conditions: how each is written.
use Rattle.std.specs.Prelude.{◌≡◌, ℕ, zero, suc, ◌+◌, ◌-◌, ◌<◌, ◌≤◌, ◌⊎◌, List, [], ◌∷◌, ◌++◌, length, Option, Some, None}
use Rattle.form_base.specs.declared.comparison.Comparison as comparisons
use Rattle.form_base.specs.declared.comparison.Comparison.TheVariants.{EqualTo}
use Rattle.form_number.specs.declared.number.Number as numbers
use Rattle.form_ast.specs.declared.expr.Spelled.{Spelled}
use Rattle.form_ast.specs.declared.condition.Weighted.{Weighted}
use Rattle.form_ast.specs.declared.condition.Value as values
use Rattle.form_ast.specs.declared.condition.Value.TheVariants as by_value
use Rattle.form_ast.specs.Conditions.{Condition, Test, nonzero, compared, parenthesis}
use Rattle.form_ast.specs.Lawful.{most_open, most_counted, IsNoZero}
use Rattle.form_grammar.specs.declared.terminal.Terminal.{Terminal}
use Rattle.form_grammar.specs.declared.terminal.Terminal.TheVariants.{Number, Name, Over, Open, Close, Comma, Equals, And, Or, Comparison}
use Rattle.form_grammar.specs.Grammar.{written_sign, written_number, IsPatternTextWithin}
use Rattle.form_conditions.specs.declared.word.Word.{Word}
use Rattle.form_conditions.specs.declared.word.Word.TheVariants.{Coefficient, Count, Match, Occurs}
use Rattle.form_conditions.specs.Word.{word_of}

-- two texts, with a mark between them
pub record AreParted (left : List Terminal → Type 0) (mark : Terminal) (right : List Terminal → Type 0) (terminals : List Terminal) : Type 0 where
  pub front : List Terminal
  pub back : List Terminal
  pub is_left : left front
  pub is_right : right back
  pub written : terminals ≡ front ++ mark ∷ back

-- text { mark text }, one text for each of what is listed, of which there is some
abbrev pub AreJoined : {A : Type 0} → (A → List Terminal → Type 0) → Terminal → List A → List Terminal → Type 0
AreJoined Text mark [] terminals = ⊥
AreJoined Text mark (x ∷ []) terminals = Text x terminals
AreJoined Text mark (x ∷ y ∷ more) terminals = AreParted (Text x) mark (AreJoined Text mark (y ∷ more)) terminals

-- a text in parentheses
pub record IsEnclosed (Text : List Terminal → Type 0) (terminals : List Terminal) : Type 0 where
  pub inner : List Terminal
  pub is_inner : Text inner
  pub written : terminals ≡ Open ∷ inner ++ Close ∷ []

-- ---- values

-- [ "/" number ]
abbrev pub written_divisor : Option numbers.Number → List Terminal
written_divisor None = []
written_divisor (Some d) = Over ∷ Number d ∷ []

-- the word, in any case of letters
pub record IsWord (word : Word) (terminals : List Terminal) : Type 0 where
  pub name : Spelled
  pub spelled : word_of name.name ≡ Some word
  pub written : terminals ≡ Name name ∷ []

-- the word, and such a text in parentheses
pub record IsCall (word : Word) (Text : List Terminal → Type 0) (terminals : List Terminal) : Type 0 where
  pub name : Spelled
  pub spelled : word_of name.name ≡ Some word
  pub inner : List Terminal
  pub is_inner : Text inner
  pub written : terminals ≡ Name name ∷ Open ∷ inner ++ Close ∷ []

abbrev pub IsNameText : Spelled → List Terminal → Type 0
IsNameText n terminals = terminals ≡ Name n ∷ []

-- name "," [sign] number
abbrev pub IsWeightedText : Weighted → List Terminal → Type 0
IsWeightedText w terminals = terminals ≡ Name w.name ∷ Comma ∷ written_number w.weight

-- how many parentheses are open in one more, where so many more may be opened
abbrev pub opened_within : ℕ → ℕ
opened_within deeper = most_open - deeper + 1

-- [sign] number [ "/" number ] | "coefficient" | "count" "(" weights ")" | "match" "(" pattern ")" | "occurs" "(" names ")",
-- where so many more parentheses may be opened: a number that divides isn't 0, and no more than 1,000 names are counted.
abbrev pub IsValueText : ℕ → values.Value → List Terminal → Type 0
IsValueText deeper (by_value.Number sign n d) terminals = IsNoZero d × (terminals ≡ written_sign sign ++ Number n ∷ written_divisor d)
IsValueText deeper by_value.Coefficient terminals = IsWord Coefficient terminals
IsValueText deeper (by_value.Count names) terminals =
    (0 < deeper) × (length names ≤ most_counted) × IsCall Count (AreJoined IsWeightedText Comma names) terminals
IsValueText deeper (by_value.Match pattern) terminals =
    (0 < deeper) × IsCall Match (λ inner. IsPatternTextWithin (opened_within deeper) inner pattern) terminals
IsValueText deeper (by_value.Occurs names) terminals = (0 < deeper) × IsCall Occurs (AreJoined IsNameText Comma names) terminals

-- ---- conditions

-- what a mark compares: `=` is `==`
abbrev pub comparison_of : Terminal → Option comparisons.Comparison
comparison_of Equals = Some EqualTo
comparison_of (Comparison c) = Some c
comparison_of _ = None

-- value
pub record IsAloneText (deeper : ℕ) (test : Test) (terminals : List Terminal) : Type 0 where
  pub value : values.Value
  pub is_value : IsValueText deeper value terminals
  pub is : test ≡ nonzero value

-- value comparison value
pub record IsComparisonText (deeper : ℕ) (test : Test) (terminals : List Terminal) : Type 0 where
  pub value : values.Value
  pub comparison : comparisons.Comparison
  pub other : values.Value
  pub mark : Terminal
  pub compares : comparison_of mark ≡ Some comparison
  pub parted : AreParted (IsValueText deeper value) mark (IsValueText deeper other) terminals
  pub is : test ≡ compared value comparison other

-- a condition in parentheses
pub record IsParenthesisText (Text : Condition → List Terminal → Type 0) (test : Test) (terminals : List Terminal) : Type 0 where
  pub condition : Condition
  pub enclosed : IsEnclosed (Text condition) terminals
  pub is : test ≡ parenthesis condition

-- conjunction { "||" conjunction }, where a conjunction is test { "&&" test }
abbrev pub AreAlternativesText : (Test → List Terminal → Type 0) → Condition → List Terminal → Type 0
AreAlternativesText Text c terminals = AreJoined (AreJoined Text And) Or c terminals

-- value [ comparison value ] | "(" alternatives ")", where so many more parentheses may be opened
unfoldable pub IsTestText : ℕ → Test → List Terminal → Type 0
IsTestText zero test terminals = IsAloneText zero test terminals ⊎ IsComparisonText zero test terminals
IsTestText (suc deeper) test terminals =
    IsAloneText (suc deeper) test terminals
    ⊎ (IsComparisonText (suc deeper) test terminals ⊎ IsParenthesisText (AreAlternativesText (IsTestText deeper)) test terminals)

-- so many more parentheses may be opened in that of a condition
abbrev pub within_condition : ℕ
within_condition = 63

-- the terminals are this condition in its parentheses
abbrev pub IsConditionText : List Terminal → Condition → Type 0
IsConditionText terminals condition = IsEnclosed (AreAlternativesText (IsTestText within_condition) condition) terminals

-- The terminals begin with such a condition, and these are left.
pub record IsConditionBefore (rest terminals : List Terminal) (c : Condition) : Type 0 where
  pub front : List Terminal
  pub condition : IsConditionText front c
  pub split : terminals ≡ front ++ rest

-- a front of the terminals is this condition
abbrev pub BeginsWith : List Terminal → Condition → Type 0
BeginsWith terminals condition = (rest : List Terminal) × IsConditionBefore rest terminals condition
