-- Whole numbers as they are written.
use Rattle.std.specs.Prelude.{◌<◌, ◌≤◌, ℕ, ◌+◌, ◌-◌, ◌*◌, ◌^◌, min, List, fold}
use Rattle.form_number.specs.Records.{WrittenNumber}
use Rattle.form_number.specs.declared.number.Capped.{Capped}
use Rattle.form_number.specs.declared.whole_number.Held.{Held}
use Rattle.form_number.specs.declared.whole_number.Held.TheVariants as helds
use Rattle.form_number.specs.declared.number.Written.{Written}
use Rattle.form_number.specs.declared.number.Written.TheVariants as writtens

-- the value of digits, the highest first
abbrev pub value_of : List ℕ → ℕ
value_of digits = fold (λ value digit. value * 10 + (digit - 48)) 0 digits

-- As far as limits ask: 2^127 is past each limit of the language, and what is larger is so, too.
abbrev pub capped_value : ℕ → ℕ
capped_value n = min n (2 ^ 127)

-- a written number as far as limits ask
abbrev pub capped : WrittenNumber → Capped
capped n = record { value = capped_value n.value; spot = n.spot }

-- the value of a number, by itself or by its digits where it is long
abbrev pub whole_value : Held → ℕ
whole_value (helds.Small value) = value
whole_value (helds.Long digits) = value_of digits.value

abbrev pub IsHeld : Held → Type 0
IsHeld (helds.Small value) = value < 2 ^ 127
IsHeld (helds.Long digits) = 2 ^ 127 ≤ value_of digits.value

-- the same of a number with its spot
abbrev pub written_number : Written → WrittenNumber
written_number (writtens.Small spot value) = record { value = value; spot = spot }
written_number (writtens.Long spot digits) = record { value = value_of digits.value; spot = spot }

abbrev pub IsWritten : Written → Type 0
IsWritten (writtens.Small spot value) = value < 2 ^ 127
IsWritten (writtens.Long spot digits) = 2 ^ 127 ≤ value_of digits.value
