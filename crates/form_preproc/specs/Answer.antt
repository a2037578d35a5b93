-- What a call answers for a file; want of memory is free.
use Rattle.std.specs.Prelude.{◌≡◌, ℕ, List, [], ◌∷◌, Bool, true, false, Option, Some, None, Result, Ok, Err}
use Rattle.form_base.specs.declared.cause.Cause.{Cause}
use Rattle.form_outside.specs.Texts.{Texts}
use Rattle.form_preproc.specs.Block.{Line, taken_up}
use Rattle.form_preproc.specs.Expansion.{Expansion, Ending, goes, ends, stops, IsExpanded, expanded, missing, refusal, refused, too_long, begun, branch, concluded}
use Rattle.form_preproc.specs.Frames.{running}
use Rattle.form_preproc.specs.Machine.{state_of, calls_of}
use Rattle.form_preproc.specs.declared.expander.Expander.{Expander}
use Rattle.form_preproc.specs.declared.file.Expanded.{Expanded}
use Rattle.form_preproc.specs.declared.file.FileError.{FileError}
use Rattle.form_preproc.specs.declared.file.FileError.TheVariants.{Missing, Refused, TooLong, Library, Memory}
use Rattle.form_preproc.specs.declared.machine.Machine.{Machine}
use Rattle.form_preproc.specs.declared.stop.ExpandError.{ExpandError}
use Rattle.form_preproc.specs.declared.stop.ExpandError.TheVariants as stop
use Rattle.form_preproc.specs.declared.stop.StopError.TheVariants as line

-- what is answered is what is meant
abbrev pub IsMeant : (Expansion → Type 0) → Result Expanded FileError → Type 0
IsMeant meant (Ok x) = meant (expanded x.lines x.names)
IsMeant meant (Err Missing) = meant missing
IsMeant meant (Err (Refused cause name line)) = meant (refusal (refused cause (record { file = name; line = line })))
IsMeant meant (Err (TooLong name)) = meant (refusal (too_long name))
IsMeant meant (Err Library) = Unit {0}
IsMeant meant (Err Memory) = Unit {0}

-- the lines of the file of this name, or why there are none
abbrev pub IsAnswer : Texts → List ℕ → Result Expanded FileError → Type 0
IsAnswer texts file result = IsMeant (λ x. IsExpanded texts file x) result

-- ---- how it is made

-- a refusal at a line of the file
abbrev pub IsRefusal : Cause → List ℕ → ℕ → FileError → Type 0
IsRefusal cause file number (Refused c name line) = (c ≡ cause) × (name ≡ file) × (line ≡ number)
IsRefusal cause file number Memory = Unit {0}
IsRefusal cause file number _ = ⊥

abbrev pub IsLongRefusal : List ℕ → FileError → Type 0
IsLongRefusal file (TooLong name) = name ≡ file
IsLongRefusal file Memory = Unit {0}
IsLongRefusal file _ = ⊥

-- the file has been taken up, and nothing has acted
abbrev pub IsBegun : List ℕ → List ℕ → Result Expander FileError → Type 0
IsBegun file bytes (Ok x) = (lines : List Line) × (taken_up file 0 bytes ≡ Ok lines) × (state_of x.machine ≡ begun file)
    × (running x.frames (calls_of x.machine) ≡ record { lines = lines; after = branch; depth = 0 } ∷ [])
IsBegun file bytes (Err (Refused cause name line)) = (taken_up file 0 bytes ≡ Err (cause, line)) × (name ≡ file)
IsBegun file bytes (Err Memory) = Unit {0}
IsBegun file bytes (Err _) = ⊥

-- how all lines ended, where it is told
abbrev pub ending_of : Result Bool ExpandError → Machine → Option Ending
ending_of (Ok true) m = Some (ends (state_of m))
ending_of (Ok false) m = Some (goes (state_of m))
ending_of (Err (stop.Stopped (line.Refused cause file number))) m = Some (stops (refused cause (record { file = file; line = number })))
ending_of (Err (stop.Stopped (line.TooLong name))) m = Some (stops (too_long name))
ending_of (Err (stop.Stopped line.Memory)) m = None
ending_of (Err stop.Library) m = None

abbrev pub IsConcluded : List ℕ → List ℕ → Option Ending → Result Expanded FileError → Type 0
IsConcluded file bytes (Some e) result = IsMeant (λ x. x ≡ concluded file bytes e) result
IsConcluded file bytes None result = IsMeant (λ x. ⊥) result
