-- Conditions: comparisons and parentheses, joined by `&&`, which binds closer, and `||`. What is read has a truth, none where
-- a number is out of range.
use Rattle.std.specs.Prelude.{ℕ, ◌+◌, ℤ, int_lt, int_le, Bool, true, false, not, ◌==◌, ◌||◌, ◌&&◌, nat_eq, if◌then◌else◌, List, [], ◌∷◌, take, drop, Option, Some, None, option_and_then, option_map}
use Rattle.std.specs.Ordering.{int_eq}
use Rattle.std.specs.Cmp.Lexicographic.{pointwise}
use Rattle.std.specs.Char.{is_ascii_digit, is_ascii_alphanumeric}
use Rattle.std.specs.List.{list_all}
use Rattle.form_calc.specs.Number as number
use Rattle.form_calc.specs.Reading.{after_blanks, before, looked_up, front, with_rest, chain, within, read_whole}
use Rattle.form_calc.specs.declared.operand.Comparison.{Comparison}
use Rattle.form_calc.specs.declared.operand.Comparison.TheVariants.{Equal, Unequal, Less, Greater, LessOrEqual, GreaterOrEqual}

-- what is compared: a number as it is written, or a text
pub record Operand : Type 0 where
  pub text : List ℕ
  pub is_number : Bool

abbrev pub same_text : List ℕ → List ℕ → Bool
same_text a b = pointwise nat_eq a b

abbrev pub compared_integers : Comparison → ℤ → ℤ → Bool
compared_integers Equal a b = int_eq a b
compared_integers Unequal a b = not (int_eq a b)
compared_integers Less a b = int_lt a b
compared_integers Greater a b = int_lt b a
compared_integers LessOrEqual a b = int_le a b
compared_integers GreaterOrEqual a b = int_le b a

-- two numbers, none where one is out of range
abbrev pub compared_numbers : Comparison → Option ℤ → Option ℤ → Option Bool
compared_numbers c (Some a) (Some b) = Some (compared_integers c a b)
compared_numbers c (Some a) None = None
compared_numbers c None b = None

-- two texts, which have no order
abbrev pub compared_texts : Comparison → List ℕ → List ℕ → Option Bool
compared_texts Equal a b = Some (same_text a b)
compared_texts Unequal a b = Some (not (same_text a b))
compared_texts _ a b = None

-- Two operands: as numbers where both are, else as texts. None where they can't be compared so, `Some None` where a number is out of range.
abbrev pub compared : Comparison → Operand → Operand → Option (Option Bool)
compared c a b =
    if a.is_number && b.is_number then Some (compared_numbers c (number.number_of a.text) (number.number_of b.text))
    else option_map Some (compared_texts c a.text b.text)

-- there is no short circuit: a number out of range counts wherever it stands
abbrev pub either : Option Bool → Option Bool → Option Bool
either (Some a) (Some b) = Some (a || b)
either (Some a) None = None
either None b = None

abbrev pub both : Option Bool → Option Bool → Option Bool
both (Some a) (Some b) = Some (a && b)
both (Some a) None = None
both None b = None

abbrev pub is_word_character : ℕ → Bool
is_word_character c = is_ascii_alphanumeric c || (c == 95)

abbrev pub is_inside_quotes : ℕ → Bool
is_inside_quotes c = not (c == 34)

-- ---- operands

-- so many characters as an operand
abbrev pub cut : ℕ → Bool → List ℕ → Option (Operand × List ℕ)
cut size is_number text = Some (record { text = take size text; is_number = is_number }, drop size text)

abbrev pub before_quote : List ℕ → List ℕ → Option (Operand × List ℕ)
before_quote text [] = None
before_quote text (c ∷ rest) = Some (record { text = text; is_number = false }, rest)

-- a text up to its closing quote
unfoldable pub quoted : List ℕ → Option (Operand × List ℕ)
quoted text = before_quote (take (front is_inside_quotes text) text) (drop (front is_inside_quotes text) text)

-- a number whose sign is the first character of a text, and its digits the rest
unfoldable pub behind_sign : List ℕ → List ℕ → Option (Operand × List ℕ)
behind_sign text rest = if front is_ascii_digit rest == 0 then None else cut (front is_ascii_digit rest + 1) true text

-- a word, or a number if it has digits alone
unfoldable pub plain : List ℕ → Option (Operand × List ℕ)
plain text =
    if front is_word_character text == 0 then None
    else cut (front is_word_character text) (list_all is_ascii_digit (take (front is_word_character text) text)) text

abbrev pub operand_in : List ℕ → Option (Operand × List ℕ)
operand_in [] = None
operand_in (c ∷ cs) =
    if c == 34 then quoted cs
    else if (c == 43) || (c == 45) then behind_sign (c ∷ cs) cs
    else plain (c ∷ cs)

unfoldable pub operand : List ℕ → Option (Operand × List ℕ)
operand text = operand_in (after_blanks text)

-- ---- marks

-- `==`, `!=`, `<=` and `>=` by their first character
abbrev pub longer : List (ℕ × Comparison)
longer = (61, Equal) ∷ (33, Unequal) ∷ (60, LessOrEqual) ∷ (62, GreaterOrEqual) ∷ []

-- `<` and `>`
abbrev pub shorter : List (ℕ × Comparison)
shorter = (60, Less) ∷ (62, Greater) ∷ []

abbrev pub begun_with : ℕ → List ℕ → Option (Comparison × List ℕ)
begun_with c [] = before (looked_up shorter c) []
begun_with c (d ∷ cs) = if d == 61 then before (looked_up longer c) cs else before (looked_up shorter c) (d ∷ cs)

abbrev pub comparison_in : List ℕ → Option (Comparison × List ℕ)
comparison_in [] = None
comparison_in (c ∷ cs) = begun_with c cs

unfoldable pub comparison_at : List ℕ → Option (Comparison × List ℕ)
comparison_at text = comparison_in (after_blanks text)

abbrev pub second_of : ℕ → ℕ → List ℕ → Option (List ℕ)
second_of mark c [] = None
second_of mark c (d ∷ cs) = if (c == mark) && (d == mark) then Some cs else None

abbrev pub double_in : ℕ → List ℕ → Option (List ℕ)
double_in mark [] = None
double_in mark (c ∷ cs) = second_of mark c cs

-- what follows a mark that is written twice
abbrev pub behind_double : ℕ → List ℕ → Option (List ℕ)
behind_double mark text = double_in mark (after_blanks text)

abbrev pub joint_in : ℕ → List ℕ → Option (Unit {0} × List ℕ)
joint_in mark text = with_rest tt (double_in mark text)

-- ---- tests

abbrev pub with_second : Operand → Comparison → Operand × List ℕ → Option (Option Bool × List ℕ)
with_second a c b = before (compared c a b.0) b.1

abbrev pub with_comparison : Operand → Comparison × List ℕ → Option (Option Bool × List ℕ)
with_comparison a c = option_and_then (with_second a c.0) (operand c.1)

abbrev pub with_first : Operand × List ℕ → Option (Option Bool × List ℕ)
with_first a = option_and_then (with_comparison a.0) (comparison_at a.1)

unfoldable pub comparison : List ℕ → Option (Option Bool × List ℕ)
comparison text = option_and_then with_first (operand text)

abbrev pub Reader : Type 0
Reader = List ℕ → Option (Option Bool × List ℕ)

abbrev pub test_in : Reader → List ℕ → List ℕ → Option (Option Bool × List ℕ)
test_in inner text [] = None
test_in inner text (c ∷ cs) = if c == 40 then inner cs else comparison text

-- a comparison, or what stands in a parenthesis
unfoldable pub test_at : Reader → List ℕ → Option (Option Bool × List ℕ)
test_at inner text = test_in inner text (after_blanks text)

-- `&&` or `||` by its character
unfoldable pub joint_at : ℕ → List ℕ → Option (Unit {0} × List ℕ)
joint_at mark text = joint_in mark (after_blanks text)

unfoldable pub conjunction : Reader → List ℕ → Option (Option Bool × List ℕ)
conjunction inner text = chain (joint_at 38) (λ joint. both) (test_at inner) text

unfoldable pub alternatives : Reader → List ℕ → Option (Option Bool × List ℕ)
alternatives inner text = chain (joint_at 124) (λ joint. either) (conjunction inner) text

-- what stands in a parenthesis, where so many more may be open
abbrev pub parenthesis : ℕ → List ℕ → Option (Option Bool × List ℕ)
parenthesis deeper = within alternatives deeper

-- Whether the condition of a text holds: none where it is no condition, `Some None` where a number is out of range.
abbrev pub truth_of : List ℕ → Option (Option Bool)
truth_of text = read_whole alternatives text
