-- Calculations as trees: how each is written, and its value. That `value_of` is the value of the tree that a text writes
-- is a law (`calculations`).
use Rattle.std.specs.Prelude.{◌≡◌, ◌≢◌, ◌≤◌, ℕ, ℤ, pos, ◌+◌, ◌-◌, ◌*◌, max, true, List, [], ◌∷◌, ◌++◌, fold, Option}
use Rattle.std.specs.List.{list_all}
use Rattle.form_calc.specs.Number as numbers
use Rattle.form_calc.specs.Calculation.{is_digit}
use Rattle.form_calc.specs.Reading.{is_blank, most_open}

mutual
  -- products, with `+` or `-` before each but the first
  pub data Sum : Type 0 where
    first : Product → Sum
    plus : Sum → Product → Sum
    minus : Sum → Product → Sum

  -- factors, with `*`, `/` or `%` before each but the first
  pub data Product : Type 0 where
    one : Factor → Product
    times : Product → Factor → Product
    over : Product → Factor → Product
    modulo : Product → Factor → Product

  -- a number with its digits, a sum in parentheses, or a factor behind a sign
  pub data Factor : Type 0 where
    number : List ℕ → Factor
    parenthesis : Sum → Factor
    positive : Factor → Factor
    negative : Factor → Factor

-- the number that digits write, the highest first
abbrev pub decimal : List ℕ → ℕ
decimal digits = fold (λ value digit. value * 10 + (digit - 48)) 0 digits

-- The value of a tree, none where a number in it or a step is out of range or divides by 0.
abbrev mutual
  pub value_of_sum : Sum → Option ℤ
  value_of_sum (first p) = value_of_product p
  value_of_sum (plus s p) = numbers.plus (value_of_sum s) (value_of_product p)
  value_of_sum (minus s p) = numbers.minus (value_of_sum s) (value_of_product p)

  pub value_of_product : Product → Option ℤ
  value_of_product (one f) = value_of_factor f
  value_of_product (times p f) = numbers.times (value_of_product p) (value_of_factor f)
  value_of_product (over p f) = numbers.over (value_of_product p) (value_of_factor f)
  value_of_product (modulo p f) = numbers.rest (value_of_product p) (value_of_factor f)

  pub value_of_factor : Factor → Option ℤ
  value_of_factor (number digits) = numbers.in_range (pos (decimal digits))
  value_of_factor (parenthesis s) = value_of_sum s
  value_of_factor (positive f) = value_of_factor f
  value_of_factor (negative f) = numbers.negated (value_of_factor f)

-- how many parentheses are open where most of them are
abbrev mutual
  pub depth_of_sum : Sum → ℕ
  depth_of_sum (first p) = depth_of_product p
  depth_of_sum (plus s p) = max (depth_of_sum s) (depth_of_product p)
  depth_of_sum (minus s p) = max (depth_of_sum s) (depth_of_product p)

  pub depth_of_product : Product → ℕ
  depth_of_product (one f) = depth_of_factor f
  depth_of_product (times p f) = max (depth_of_product p) (depth_of_factor f)
  depth_of_product (over p f) = max (depth_of_product p) (depth_of_factor f)
  depth_of_product (modulo p f) = max (depth_of_product p) (depth_of_factor f)

  pub depth_of_factor : Factor → ℕ
  depth_of_factor (number digits) = 0
  depth_of_factor (parenthesis s) = 1 + depth_of_sum s
  depth_of_factor (positive f) = depth_of_factor f
  depth_of_factor (negative f) = depth_of_factor f

pub data Mark : Type 0 where
  Plus : Mark
  Minus : Mark
  Times : Mark
  Over : Mark
  Rest : Mark
  Open : Mark
  Close : Mark

-- a whole number, or a mark
pub data Token : Type 0 where
  numeral : List ℕ → Token
  mark : Mark → Token

-- the tokens of a tree, in the order of the text
abbrev mutual
  pub tokens_of_sum : Sum → List Token
  tokens_of_sum (first p) = tokens_of_product p
  tokens_of_sum (plus s p) = tokens_of_sum s ++ mark Plus ∷ tokens_of_product p
  tokens_of_sum (minus s p) = tokens_of_sum s ++ mark Minus ∷ tokens_of_product p

  pub tokens_of_product : Product → List Token
  tokens_of_product (one f) = tokens_of_factor f
  tokens_of_product (times p f) = tokens_of_product p ++ mark Times ∷ tokens_of_factor f
  tokens_of_product (over p f) = tokens_of_product p ++ mark Over ∷ tokens_of_factor f
  tokens_of_product (modulo p f) = tokens_of_product p ++ mark Rest ∷ tokens_of_factor f

  pub tokens_of_factor : Factor → List Token
  tokens_of_factor (number ds) = numeral ds ∷ []
  tokens_of_factor (parenthesis s) = mark Open ∷ tokens_of_sum s ++ mark Close ∷ []
  tokens_of_factor (positive f) = mark Plus ∷ tokens_of_factor f
  tokens_of_factor (negative f) = mark Minus ∷ tokens_of_factor f

-- `+`, `-`, `*`, `/`, `%`, `(`, `)`
abbrev pub byte_of : Mark → ℕ
byte_of Plus = 43
byte_of Minus = 45
byte_of Times = 42
byte_of Over = 47
byte_of Rest = 37
byte_of Open = 40
byte_of Close = 41

-- how a token is written
abbrev pub IsWritten : Token → List ℕ → Type 0
IsWritten (numeral ds) text = (text ≡ ds) × (ds ≢ []) × (list_all is_digit ds ≡ true)
IsWritten (mark m) text = text ≡ byte_of m ∷ []

-- The text begins with this token: behind blanks stands what writes it, and then the rest.
pub record BeginsWith (text : List ℕ) (token : Token) (rest : List ℕ) : Type 0 where
  pub blanks : List ℕ
  pub written : List ℕ
  pub text_is : text ≡ blanks ++ (written ++ rest)
  pub only_blanks : list_all is_blank blanks ≡ true
  pub is_written : IsWritten token written

-- A text has these tokens, one behind another, with blanks before each and behind the last. In no tree do two numbers
-- stand next to each other, so a number has all digits that stand together, and `1 2` is no calculation.
abbrev pub AreTokens : List ℕ → List Token → Type 0
AreTokens text [] = list_all is_blank text ≡ true
AreTokens text (token ∷ tokens) = (rest : List ℕ) × BeginsWith text token rest × AreTokens rest tokens

-- A text writes this tree, in which no more than 64 parentheses are open at a place.
pub record IsCalculation (text : List ℕ) (sum : Sum) : Type 0 where
  pub are_tokens : AreTokens text (tokens_of_sum sum)
  pub is_shallow : depth_of_sum sum ≤ most_open
