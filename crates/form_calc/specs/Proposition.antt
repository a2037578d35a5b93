-- Conditions as trees: how each is written, and whether it holds. That `truth_of` is the truth of the tree that a text
-- writes is a law (`conditions`).
use Rattle.std.specs.Prelude.{◌≡◌, ◌≢◌, ◌⊎◌, ℕ, ◌+◌, ◌<◌, Bool, true, false, not, ◌==◌, ◌&&◌, ◌||◌, if◌then◌else◌, List, [], ◌∷◌, ◌++◌, Option}
use Rattle.std.specs.List.{list_all}
use Rattle.std.specs.Char.{is_ascii_digit}
use Rattle.form_calc.specs.Number.{number_of}
use Rattle.form_calc.specs.Reading.{is_blank, most_open}
use Rattle.form_calc.specs.Condition as conditions
use Rattle.form_calc.specs.Condition.{Operand, compared_numbers, compared_texts, is_word_character}
use Rattle.form_calc.specs.declared.operand.Comparison.{Comparison}
use Rattle.form_calc.specs.declared.operand.Comparison.TheVariants.{Equal, Unequal, Less, Greater, LessOrEqual, GreaterOrEqual}

mutual
  -- conjunctions, joined by `||`
  pub data Alternatives : Type 0 where
    first : Conjunction → Alternatives
    or_else : Alternatives → Conjunction → Alternatives

  -- tests, joined by `&&`, which binds closer
  pub data Conjunction : Type 0 where
    one : Test → Conjunction
    and_also : Conjunction → Test → Conjunction

  -- two operands that are compared, or alternatives in parentheses
  pub data Test : Type 0 where
    compared : Operand → Comparison → Operand → Test
    parenthesis : Alternatives → Test

-- two numbers are compared by their values, and else two texts
abbrev pub truth_of_comparison : Comparison → Operand → Operand → Option Bool
truth_of_comparison c a b = if a.is_number && b.is_number then compared_numbers c (number_of a.text) (number_of b.text) else compared_texts c a.text b.text

-- Whether a tree holds; none where a number that is compared by its value is out of range, wherever in the tree it stands.
abbrev mutual
  pub truth_of_alternatives : Alternatives → Option Bool
  truth_of_alternatives (first j) = truth_of_conjunction j
  truth_of_alternatives (or_else s j) = conditions.either (truth_of_alternatives s) (truth_of_conjunction j)

  pub truth_of_conjunction : Conjunction → Option Bool
  truth_of_conjunction (one t) = truth_of_test t
  truth_of_conjunction (and_also j t) = conditions.both (truth_of_conjunction j) (truth_of_test t)

  pub truth_of_test : Test → Option Bool
  truth_of_test (compared a c b) = truth_of_comparison c a b
  truth_of_test (parenthesis s) = truth_of_alternatives s

abbrev pub is_order : Comparison → Bool
is_order Equal = false
is_order Unequal = false
is_order _ = true

-- only numbers have an order
abbrev pub AreComparable : Comparison → Operand → Operand → Type 0
AreComparable c a b = is_order c ≡ true → (a.is_number && b.is_number) ≡ true

-- A tree may stand where so many parentheses are open: no more than 64 are open anywhere in it, and what is compared can be.
abbrev mutual
  pub AreLawful : ℕ → Alternatives → Type 0
  AreLawful opened (first j) = IsLawfulConjunction opened j
  AreLawful opened (or_else s j) = AreLawful opened s × IsLawfulConjunction opened j

  pub IsLawfulConjunction : ℕ → Conjunction → Type 0
  IsLawfulConjunction opened (one t) = IsLawfulTest opened t
  IsLawfulConjunction opened (and_also j t) = IsLawfulConjunction opened j × IsLawfulTest opened t

  pub IsLawfulTest : ℕ → Test → Type 0
  IsLawfulTest opened (compared a c b) = AreComparable c a b
  IsLawfulTest opened (parenthesis s) = (opened < most_open) × AreLawful (opened + 1) s

pub data Token : Type 0 where
  operand : Operand → Token
  comparison : Comparison → Token
  And : Token
  Or : Token
  Open : Token
  Close : Token

-- the tokens of a tree, in the order of the text
abbrev mutual
  pub tokens_of_alternatives : Alternatives → List Token
  tokens_of_alternatives (first j) = tokens_of_conjunction j
  tokens_of_alternatives (or_else s j) = tokens_of_alternatives s ++ Or ∷ tokens_of_conjunction j

  pub tokens_of_conjunction : Conjunction → List Token
  tokens_of_conjunction (one t) = tokens_of_test t
  tokens_of_conjunction (and_also j t) = tokens_of_conjunction j ++ And ∷ tokens_of_test t

  pub tokens_of_test : Test → List Token
  tokens_of_test (compared a c b) = operand a ∷ comparison c ∷ operand b ∷ []
  tokens_of_test (parenthesis s) = Open ∷ tokens_of_alternatives s ++ Close ∷ []

-- `==`, `!=`, `<`, `>`, `<=`, `>=`
abbrev pub text_of_comparison : Comparison → List ℕ
text_of_comparison Equal = 61 ∷ 61 ∷ []
text_of_comparison Unequal = 33 ∷ 61 ∷ []
text_of_comparison Less = 60 ∷ []
text_of_comparison Greater = 62 ∷ []
text_of_comparison LessOrEqual = 60 ∷ 61 ∷ []
text_of_comparison GreaterOrEqual = 62 ∷ 61 ∷ []

abbrev pub AreDigits : List ℕ → Type 0
AreDigits text = (text ≢ []) × (list_all is_ascii_digit text ≡ true)

abbrev pub is_sign : ℕ → Bool
is_sign c = (c == 43) || (c == 45)

-- digits, with a sign or without one
abbrev pub IsNumber : List ℕ → Type 0
IsNumber [] = ⊥
IsNumber (c ∷ cs) = ((is_sign c ≡ true) × AreDigits cs) ⊎ AreDigits (c ∷ cs)

-- letters, digits and underscores, of which one is no digit
abbrev pub IsWord : List ℕ → Type 0
IsWord text = (list_all is_word_character text ≡ true) × (list_all is_ascii_digit text ≡ false)

-- a text in quotes
abbrev pub IsQuoted : List ℕ → List ℕ → Type 0
IsQuoted text inner = (text ≡ 34 ∷ (inner ++ 34 ∷ [])) × (list_all (λ c. not (c == 34)) inner ≡ true)

-- how an operand is written: a number as it is, a text as a word or in quotes
abbrev pub IsWrittenOperand : Bool → List ℕ → List ℕ → Type 0
IsWrittenOperand true kept text = (text ≡ kept) × IsNumber kept
IsWrittenOperand false kept text = ((text ≡ kept) × IsWord kept) ⊎ IsQuoted text kept

-- how a token is written
abbrev pub IsWritten : Token → List ℕ → Type 0
IsWritten (operand a) text = IsWrittenOperand a.is_number a.text text
IsWritten (comparison c) text = text ≡ text_of_comparison c
IsWritten And text = text ≡ 38 ∷ 38 ∷ []
IsWritten Or text = text ≡ 124 ∷ 124 ∷ []
IsWritten Open text = text ≡ 40 ∷ []
IsWritten Close text = text ≡ 41 ∷ []

-- The text begins with this token: behind blanks stands what writes it, and then the rest.
pub record BeginsWith (text : List ℕ) (token : Token) (rest : List ℕ) : Type 0 where
  pub blanks : List ℕ
  pub written : List ℕ
  pub text_is : text ≡ blanks ++ (written ++ rest)
  pub only_blanks : list_all is_blank blanks ≡ true
  pub is_written : IsWritten token written

-- A text has these tokens, one behind another, with blanks before each and behind the last. In no tree do two operands
-- stand next to each other, so a word or a number has all of its characters that stand together.
abbrev pub AreTokens : List ℕ → List Token → Type 0
AreTokens text [] = list_all is_blank text ≡ true
AreTokens text (token ∷ tokens) = (rest : List ℕ) × BeginsWith text token rest × AreTokens rest tokens

-- a text writes this tree
pub record IsCondition (text : List ℕ) (tree : Alternatives) : Type 0 where
  pub are_tokens : AreTokens text (tokens_of_alternatives tree)
  pub lawful : AreLawful 0 tree
