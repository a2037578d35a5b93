-- Reading on in a line that is too long: of its text only the names are kept, since one of them may have no value.
use Rattle.std.specs.Prelude.{◌≡◌, ℕ, ◌<◌, Bool, true, false, ⊤, List, [], ◌∷◌, length, Result, Ok, Err}
use Rattle.form_lines.specs.Program.{most_bytes}
use Rattle.form_base.specs.declared.cause.Cause.{Cause}
use Rattle.form_preproc.specs.declared.error.LineError.{LineError}
use Rattle.form_preproc.specs.declared.error.LineError.TheVariants.{Refused, Memory}
use Rattle.form_preproc.specs.Putting.{read}
use Rattle.form_preproc.specs.Variables.{Values}
use Rattle.form_preproc.specs.declared.putting.Putting.{Putting}

-- the same texts but for the outermost one, which is too long for a line
abbrev pub LikeIn : List ℕ → List (List ℕ) → List ℕ → List (List ℕ) → Type 0
LikeIn text [] kept [] = most_bytes < length text
LikeIn text [] kept (k ∷ others) = ⊥
LikeIn text (before ∷ outer) kept [] = ⊥
LikeIn text (before ∷ outer) kept (k ∷ others) = (text ≡ kept) × LikeIn before outer k others

-- a line that is too long and what is kept of it
abbrev pub IsLike : Putting → Putting → Type 0
IsLike p kept = LikeIn p.text p.outer kept.text kept.outer

-- a line and what is kept of it: all, unless it is too long
abbrev pub AreSame : Bool → Putting → Putting → Type 0
AreSame true p kept = IsLike p kept
AreSame false p kept = p ≡ kept

-- one step in a line that is too long: what is kept then, or a cause
abbrev pub IsPassed : Putting → Result ⊤ LineError → Result Putting Cause → Type 0
IsPassed kept (Ok done) meant = (next : Putting) × (meant ≡ Ok next) × IsLike next kept
IsPassed kept (Err (Refused cause)) meant = meant ≡ Err cause
IsPassed kept (Err Memory) meant = Unit {0}

-- what is kept of a line, whether that is too long, and what is left to be read of it
abbrev pub IsReadOn : Values → Bool → Putting → List ℕ → Result Putting Cause → Type 0
IsReadOn values is_long kept rest meant = (next : Putting) × (meant ≡ read values next rest) × AreSame is_long next kept

-- one step in any line: what is kept then and whether that is too long, or a cause
abbrev pub IsRead : Putting → Result Bool LineError → Result Putting Cause → Type 0
IsRead kept (Ok is_long) meant = (next : Putting) × (meant ≡ Ok next) × AreSame is_long next kept
IsRead kept (Err (Refused cause)) meant = meant ≡ Err cause
IsRead kept (Err Memory) meant = Unit {0}
