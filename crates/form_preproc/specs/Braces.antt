-- Calculations in braces.
use Rattle.std.specs.Prelude.{◌≡◌, ⊤, ℕ, ℤ, ◌==◌, ◌||◌, ◌&&◌, Bool, true, false, if◌then◌else◌, List, [], ◌∷◌, ◌++◌, Option, Some, None, Result, Ok, Err}
use Rattle.std.specs.Fmt.{signed_decimal}
use Rattle.std.specs.List.{list_all, list_any}
use Rattle.form_lines.specs.Program.{is_blank}
use Rattle.form_base.specs.declared.cause.Cause.{Cause}
use Rattle.form_base.specs.declared.cause.Cause.TheVariants.{BadInstruction, CalcRange}
use Rattle.form_calc.specs.Calculation.{value_of}
use Rattle.form_preproc.specs.Bytes.{is_digit}
use Rattle.form_preproc.specs.Putting.{and_then}
use Rattle.form_preproc.specs.declared.error.LineError.{LineError}
use Rattle.form_preproc.specs.declared.error.LineError.TheVariants.{Refused, Memory}

-- a line that is read up to a place: what stands before the braces that are read, whether braces are open in which only what can be
-- calculated stands, and what stands in them
pub record Braces : Type 0 where
  pub done : List ℕ
  pub is_open : Bool
  pub inside : List ℕ

-- what may stand in braces that are calculated
abbrev pub is_calculable : ℕ → Bool
is_calculable c =
    is_digit c || (is_blank c || ((c == 43) || ((c == 45) || ((c == 42) || ((c == 47) || ((c == 37) || ((c == 40) || (c == 41))))))))

abbrev pub begun : Braces
begun = record { done = []; is_open = false; inside = [] }

-- braces begin: what was inside others that aren't calculated stays
abbrev pub opened : Braces → Braces
opened b = record { done = if b.is_open then b.done ++ 123 ∷ b.inside else b.done; is_open = true; inside = [] }

-- braces that aren't calculated stay as they are
abbrev pub kept : Braces → ℕ → Braces
kept b byte = record { done = (if b.is_open then b.done ++ 123 ∷ b.inside else b.done) ++ byte ∷ []; is_open = false; inside = [] }

-- the value of a calculation
abbrev pub known : Option (Option ℤ) → Result ℤ Cause
known None = Err BadInstruction
known (Some None) = Err CalcRange
known (Some (Some n)) = Ok n

abbrev pub valued : List ℕ → Option (Option ℤ) → Result Braces Cause
valued done value = and_then (known value) (λ n. Ok (record { done = done ++ signed_decimal n; is_open = false; inside = [] }))

-- braces end: where a digit is inside, its value stands in their place
abbrev pub closed : Braces → Result Braces Cause
closed b = if b.is_open && list_any is_digit b.inside then valued b.done (value_of b.inside) else Ok (kept b 125)

-- one more byte
abbrev pub step : Braces → ℕ → Result Braces Cause
step b byte =
    if byte == 123 then Ok (opened b)
    else if byte == 125 then closed b
    else if b.is_open && is_calculable byte then Ok (record { done = b.done; is_open = true; inside = b.inside ++ byte ∷ [] })
    else Ok (kept b byte)

abbrev pub end_of : Braces → List ℕ
end_of b = if b.is_open then b.done ++ 123 ∷ b.inside else b.done

unfoldable pub read : Braces → List ℕ → Result Braces Cause
read b [] = Ok b
read b (byte ∷ text) = and_then (step b byte) (λ next. read next text)

-- The line with the values of its calculations: in braces, up to the next `}`, only digits, blanks, `+ - * / % ( )`, and at least one digit.
abbrev pub calculated : List ℕ → Result (List ℕ) Cause
calculated text = and_then (read begun text) (λ b. Ok (end_of b))

-- a `}` behind a text ends no calculation, and both stay as they are
abbrev pub IsKept : List ℕ → Type 0
IsKept before = (rest : List ℕ) → calculated (before ++ 125 ∷ rest) ≡ and_then (calculated rest) (λ t. Ok ((before ++ 125 ∷ []) ++ t))

-- it ends one, whose braces open behind what stands outside
abbrev pub IsCalculation : List ℕ → List ℕ → List ℕ → Type 0
IsCalculation before outside inside = (before ≡ outside ++ 123 ∷ inside) × ((list_all is_calculable inside && list_any is_digit inside) ≡ true)

-- how a part of a line goes on: what it puts behind what is done stands before what the rest comes to, or its cause is all
abbrev pub GoesOn : List ℕ → List ℕ → Result ⊤ LineError → Result (List ℕ) Cause → Result (List ℕ) Cause → Type 0
GoesOn old new (Ok made) whole rest = (added : List ℕ) × (new ≡ old ++ added) × (whole ≡ and_then rest (λ t. Ok (added ++ t)))
GoesOn old new (Err (Refused cause)) whole rest = whole ≡ Err cause
GoesOn old new (Err Memory) whole rest = Unit {0}
