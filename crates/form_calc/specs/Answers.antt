-- What a call answers.
use Rattle.std.specs.Prelude.{◌≡◌, Option, Some, None, Result, Ok, Err}
use Rattle.form_calc.specs.declared.error.CalcError.{CalcError}
use Rattle.form_calc.specs.declared.error.CalcError.TheVariants.{IllFormed, OutOfRange}

-- a value, that it is out of range, or that what is written has none
abbrev pub IsCalculated : {X : Type 0} → Result X CalcError → Option (Option X) → Type 0
IsCalculated (Ok value) meant = meant ≡ Some (Some value)
IsCalculated (Err IllFormed) meant = meant ≡ None
IsCalculated (Err OutOfRange) meant = meant ≡ Some None
