-- Digits, the lowest first.
use Rattle.std.specs.Prelude.{◌<◌, ℕ, ◌+◌, ◌*◌, List, [], ◌∷◌, ◌++◌, take, drop, All}

-- the value of digits, the lowest first, and of a number that stands above them
abbrev pub units_below : List ℕ → ℕ → ℕ
units_below [] above = above
units_below (digit ∷ digits) above = digit + 10 * units_below digits above

-- the value of digits, the lowest first
abbrev pub units : List ℕ → ℕ
units digits = units_below digits 0

abbrev pub AreDigits : List ℕ → Type 0
AreDigits digits = All (λ digit. digit < 10) digits

-- digits with another one at a place, or with one more behind the last one
abbrev pub with_digit : List ℕ → ℕ → ℕ → List ℕ
with_digit digits place digit = take place digits ++ digit ∷ drop (place + 1) digits
