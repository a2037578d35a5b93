-- Lists of arguments and of texts: parts of a text, between commas.
use Rattle.std.specs.Prelude.{ℕ, ◌==◌, ◌||◌, ◌&&◌, not, Bool, true, false, if◌then◌else◌, List, [], ◌∷◌, ◌++◌, length, Option, Some, None, option_and_then}
use Rattle.form_preproc.specs.Bytes.{trimmed}
use Rattle.form_preproc.specs.declared.parts.Parting.{Parting}
use Rattle.form_preproc.specs.declared.parts.Parting.TheVariants.{Arguments, Commas, CommasOrBars}
use Rattle.form_preproc.specs.declared.parts.Parts.{Parts}

abbrev pub is_separator : Parting → ℕ → Bool
is_separator CommasOrBars c = (c == 44) || (c == 124)
is_separator _ c = c == 44

-- brackets of all kinds are looked at in arguments alone
abbrev pub is_opening : Parting → ℕ → Bool
is_opening Arguments c = (c == 40) || ((c == 91) || (c == 123))
is_opening _ c = false

abbrev pub is_closing : Parting → ℕ → Bool
is_closing Arguments c = (c == 41) || ((c == 93) || (c == 125))
is_closing _ c = false

abbrev pub closing_of : ℕ → ℕ
closing_of c = if c == 40 then 41 else (if c == 91 then 93 else 125)

abbrev pub begun : Parting → Parts
begun parting = record { parting = parting; closings = []; part = []; parts = [] }

abbrev pub with_byte : Parts → ℕ → List ℕ → Parts
with_byte p byte closings = record { parting = p.parting; closings = closings; part = p.part ++ byte ∷ []; parts = p.parts }

-- a part ends, without the blanks at its ends
abbrev pub with_part : Parts → Parts
with_part p = record { parting = p.parting; closings = p.closings; part = []; parts = p.parts ++ trimmed p.part ∷ [] }

-- a closing bracket belongs to the innermost one that is open
abbrev pub closed : Parts → ℕ → List ℕ → Option Parts
closed p byte [] = None
closed p byte (closing ∷ closings) = if byte == closing then Some (with_byte p byte closings) else None

abbrev pub step : Parts → ℕ → Option Parts
step p byte =
    if is_opening p.parting byte then Some (with_byte p byte (closing_of byte ∷ p.closings))
    else if is_closing p.parting byte then closed p byte p.closings
    else if is_separator p.parting byte && (length p.closings == 0) then Some (with_part p)
    else Some (with_byte p byte p.closings)

abbrev pub end_of : Parts → Option (List (List ℕ))
end_of p = if length p.closings == 0 then Some (with_part p).parts else None

unfoldable pub read : Parts → List ℕ → Option Parts
read p [] = Some p
read p (byte ∷ text) = option_and_then (λ next. read next text) (step p byte)

-- The parts of a text between separators that stand outside brackets; none where brackets don't fit together.
abbrev pub parted : Parting → List ℕ → Option (List (List ℕ))
parted parting text = option_and_then end_of (read (begun parting) text)
