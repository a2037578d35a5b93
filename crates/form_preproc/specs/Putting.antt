-- Putting the values of variables into a line.
use Rattle.std.specs.Prelude.{◌≡◌, ℕ, Bool, false, ◌==◌, ◌||◌, nat_lt, if◌then◌else◌, List, [], ◌∷◌, ◌++◌, length, Option, Some, None, Result, Ok, Err}
use Rattle.std.specs.List.{list_any}
use Rattle.form_lines.specs.Program.{most_bytes}
use Rattle.form_base.specs.declared.cause.Cause.{Cause}
use Rattle.form_base.specs.declared.cause.Cause.TheVariants.{Unclosed, UnknownVar, LineLimit}
use Rattle.form_preproc.specs.Variables.{Values, newest}
use Rattle.form_preproc.specs.declared.putting.Putting.{Putting}

abbrev pub and_then : {X Y : Type 0} → Result X Cause → (X → Result Y Cause) → Result Y Cause
and_then (Ok x) f = f x
and_then (Err cause) f = Err cause

-- a line that is as long as may be
abbrev pub unless_long : List ℕ → Result (List ℕ) Cause
unless_long text = if nat_lt most_bytes (length text) then Err LineLimit else Ok text

abbrev pub with_byte : Putting → ℕ → Putting
with_byte p byte = record { outer = p.outer; text = p.text ++ byte ∷ [] }

abbrev pub with_text : Putting → List ℕ → Putting
with_text p text = record { outer = p.outer; text = p.text ++ text }

abbrev pub AreNoQuotes : List ℕ → Type 0
AreNoQuotes text = list_any (λ c. (c == 96) || (c == 39)) text ≡ false

-- a quote that opens a name, or another one
abbrev pub quote : Bool → ℕ
quote opens = if opens then 96 else 39

-- what stands before the first quote, whether that opens a name, and what stands behind it
abbrev pub IsAtQuote : List ℕ → List ℕ → Bool → List ℕ → Type 0
IsAtQuote text before opens behind = (text ≡ before ++ quote opens ∷ behind) × AreNoQuotes before

-- a name is quoted from here on
abbrev pub opened : Putting → Putting
opened p = record { outer = p.text ∷ p.outer; text = [] }

abbrev pub valued : List ℕ → List ℕ → List (List ℕ) → Option (List ℕ) → Result Putting Cause
valued name before outer None = Err (UnknownVar name)
valued name before outer (Some value) = Ok (record { outer = outer; text = before ++ value })

-- A quote ends the innermost name that is open, and its value stands in its place; where none is open it is a byte like others.
abbrev pub closed : Values → List ℕ → List (List ℕ) → Result Putting Cause
closed values text [] = Ok (record { outer = []; text = text ++ 39 ∷ [] })
closed values text (before ∷ outer) = valued text before outer (newest values text)

-- one more quote
abbrev pub quoted : Values → Putting → Bool → Result Putting Cause
quoted values p opens = if opens then Ok (opened p) else closed values p.text p.outer

-- one more byte: what is put in isn't looked at again
abbrev pub step : Values → Putting → ℕ → Result Putting Cause
step values p byte =
    if byte == 96 then Ok (opened p)
    else if byte == 39 then closed values p.text p.outer
    else Ok (with_byte p byte)

abbrev pub end_in : List ℕ → List (List ℕ) → Result (List ℕ) Cause
end_in text [] = unless_long text
end_in text (before ∷ outer) = Err Unclosed

abbrev pub end_of : Putting → Result (List ℕ) Cause
end_of p = end_in p.text p.outer

abbrev pub begun : Putting
begun = record { outer = []; text = [] }

unfoldable pub read : Values → Putting → List ℕ → Result Putting Cause
read values p [] = Ok p
read values p (byte ∷ text) = and_then (step values p byte) (λ next. read values next text)

-- The line with the values in place of the names in quotes: names nest, and the inner one is put in first.
abbrev pub put_in : Values → List ℕ → Result (List ℕ) Cause
put_in values text = and_then (read values begun text) end_of
