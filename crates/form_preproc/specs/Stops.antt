-- What stops expansion, as it is answered; want of memory is free.
use Rattle.std.specs.Prelude.{◌≡◌, ℕ, List}
use Rattle.form_base.specs.declared.cause.Cause.{Cause}
use Rattle.form_preproc.specs.Expansion.{Place, Stop, refused, too_long}
use Rattle.form_preproc.specs.declared.error.LineError as lines
use Rattle.form_preproc.specs.declared.error.LineError.TheVariants as line
use Rattle.form_preproc.specs.declared.stop.StopError.{StopError}
use Rattle.form_preproc.specs.declared.stop.StopError.TheVariants.{Refused, TooLong, Memory}

abbrev pub IsStop : StopError → Stop → Type 0
IsStop (Refused cause file number) stop = stop ≡ refused cause (record { file = file; line = number })
IsStop (TooLong name) stop = stop ≡ too_long name
IsStop Memory stop = Unit {0}

-- an error of a line, at its place
abbrev pub IsStopAt : lines.LineError → Place → StopError → Type 0
IsStopAt (line.Refused cause) place stop = IsStop stop (refused cause place)
IsStopAt line.Memory place stop = stop ≡ Memory

-- a refusal for this cause at a line of the text of this name
abbrev pub IsStopIn : List ℕ → Cause → ℕ → StopError → Type 0
IsStopIn file cause number (Refused c name line) = (c ≡ cause) × (name ≡ file) × (line ≡ number)
IsStopIn file cause number (TooLong name) = ⊥
IsStopIn file cause number Memory = Unit {0}
