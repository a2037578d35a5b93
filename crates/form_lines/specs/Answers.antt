-- What a call answers in place of lines; want of memory is free.
use Rattle.std.specs.Prelude.{◌≡◌, ℕ, Bool, IsTrue, Result, Err}
use Rattle.form_lines.specs.declared.lines.LinesError.{LinesError}
use Rattle.form_lines.specs.declared.lines.LinesError.TheVariants.{BadByte, Memory}

-- the line that is refused for a bad byte
abbrev pub IsBadLine : {X : Type 0} → LinesError → Result X ℕ → Type 0
IsBadLine (BadByte line) meant = meant ≡ Err line
IsBadLine Memory meant = Unit {0}

-- the line of this number is bad, as this test says
abbrev pub IsBadAt : LinesError → ℕ → Bool → Type 0
IsBadAt (BadByte line) number is_bad = (line ≡ number) × IsTrue is_bad
IsBadAt Memory number is_bad = Unit {0}
