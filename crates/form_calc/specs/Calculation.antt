-- Calculations with whole numbers: signs bind closest, then `*`, `/` and `%`, then `+` and `-`, from the left. What is read
-- has a value, none where it is out of range.
use Rattle.std.specs.Prelude.{ℕ, ℤ, Bool, true, false, ◌==◌, ◌||◌, ◌&&◌, nat_le, if◌then◌else◌, List, [], ◌∷◌, take, drop, Option, Some, None, option_and_then}
use Rattle.form_calc.specs.Number as numbers
use Rattle.form_calc.specs.Reading.{is_blank, after_blanks, first_in, front, chain, within, read_whole}
use Rattle.form_calc.specs.declared.operator.Operator.{Operator}
use Rattle.form_calc.specs.declared.operator.Operator.TheVariants.{Times, Over, Rest}

abbrev pub Reader : Type 0
Reader = List ℕ → Option (Option ℤ × List ℕ)

abbrev pub is_digit : ℕ → Bool
is_digit c = nat_le 48 c && nat_le c 57

-- the number of the digits at the front
unfoldable pub numeral : List ℕ → Option (Option ℤ × List ℕ)
numeral text = if front is_digit text == 0 then None else Some (numbers.number_of (take (front is_digit text) text), drop (front is_digit text) text)

-- what may stand before a factor: blanks and signs
abbrev pub is_lead : ℕ → Bool
is_lead c = is_blank c || (c == 43) || (c == 45)

abbrev pub after_signs : List ℕ → List ℕ
after_signs [] = []
after_signs (c ∷ cs) = if is_lead c then after_signs cs else c ∷ cs

abbrev pub turned : ℕ → Option ℤ → Option ℤ
turned c n = if c == 45 then numbers.negated n else n

-- the number behind the signs at the front of a text; a step out of range on the way counts
unfoldable pub signed : List ℕ → Option ℤ → Option ℤ
signed [] n = n
signed (c ∷ cs) n = if is_lead c then signed cs (turned c n) else n

abbrev pub with_signs : List ℕ → Option (Option ℤ × List ℕ) → Option (Option ℤ × List ℕ)
with_signs signs unsigned = option_and_then (λ p. Some (signed signs p.0, p.1)) unsigned

-- a number, or what stands in a parenthesis
unfoldable pub primary : Reader → List ℕ → Option (Option ℤ × List ℕ)
primary inner [] = None
primary inner (c ∷ cs) = if c == 40 then inner cs else numeral (c ∷ cs)

unfoldable pub factor : Reader → List ℕ → Option (Option ℤ × List ℕ)
factor inner text = with_signs text (primary inner (after_signs text))

abbrev pub operators : List (ℕ × Operator)
operators = (42, Times) ∷ (47, Over) ∷ (37, Rest) ∷ []

unfoldable pub operator_at : List ℕ → Option (Operator × List ℕ)
operator_at text = first_in operators (after_blanks text)

abbrev pub applied : Operator → Option ℤ → Option ℤ → Option ℤ
applied Times product factor = numbers.times product factor
applied Over product factor = numbers.over product factor
applied Rest product factor = numbers.rest product factor

unfoldable pub product : Reader → List ℕ → Option (Option ℤ × List ℕ)
product inner text = chain operator_at applied (factor inner) text

-- whether a product is taken away
abbrev pub signs : List (ℕ × Bool)
signs = (43, false) ∷ (45, true) ∷ []

unfoldable pub sign_at : List ℕ → Option (Bool × List ℕ)
sign_at text = first_in signs (after_blanks text)

abbrev pub added : Bool → Option ℤ → Option ℤ → Option ℤ
added is_minus sum product = if is_minus then numbers.minus sum product else numbers.plus sum product

unfoldable pub sum : Reader → List ℕ → Option (Option ℤ × List ℕ)
sum inner text = chain sign_at added (product inner) text

-- what stands in a parenthesis, where so many more may be open
abbrev pub parenthesis : ℕ → List ℕ → Option (Option ℤ × List ℕ)
parenthesis deeper = within sum deeper

-- The value of a text: none where it is no calculation, `Some None` where a step is out of range or divides by 0.
abbrev pub value_of : List ℕ → Option (Option ℤ)
value_of text = read_whole sum text
