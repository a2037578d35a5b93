-- What a call answers in place of a value; want of memory is free.
use Rattle.std.specs.Prelude.{◌≡◌, Option, Some, None, Result, Ok, Err, ⊤}
use Rattle.std.specs.declared.alloc.AllocError.{AllocError}
use Rattle.form_base.specs.declared.cause.Cause.{Cause}
use Rattle.form_preproc.specs.declared.error.LineError.{LineError}
use Rattle.form_preproc.specs.declared.error.LineError.TheVariants.{Refused, Memory}
use Rattle.form_preproc.specs.declared.error.PartError.{PartError}
use Rattle.form_preproc.specs.declared.error.PartError.TheVariants.{IllFormed, NoMemory}
use Rattle.form_preproc.specs.declared.nesting.Nesting.{Nesting}
use Rattle.form_preproc.specs.declared.nesting.Nesting.TheVariants.{Bad}
use Rattle.form_preproc.specs.declared.nesting.Nesting.TheVariants as nestings

-- what is meant, a value or a cause
abbrev pub Gives : {X : Type 0} → Result X LineError → Result X Cause → Type 0
Gives (Ok value) meant = meant ≡ Ok value
Gives (Err (Refused cause)) meant = meant ≡ Err cause
Gives (Err Memory) meant = Unit {0}

-- one step: what it leaves, or a cause
abbrev pub Steps : {S : Type 0} → S → Result ⊤ LineError → Result S Cause → Type 0
Steps new (Ok done) meant = meant ≡ Ok new
Steps new (Err (Refused cause)) meant = meant ≡ Err cause
Steps new (Err Memory) meant = Unit {0}

-- what is written, where it is of its form
abbrev pub IsMade : {X : Type 0} → Result X PartError → Option X → Type 0
IsMade (Ok value) meant = meant ≡ Some value
IsMade (Err IllFormed) meant = meant ≡ None
IsMade (Err NoMemory) meant = Unit {0}

-- one step of reading it
abbrev pub IsStep : {S : Type 0} → S → Result ⊤ PartError → Option S → Type 0
IsStep new (Ok done) meant = meant ≡ Some new
IsStep new (Err IllFormed) meant = meant ≡ None
IsStep new (Err NoMemory) meant = Unit {0}

-- one line of a check of nesting
abbrev pub IsNested : {S : Type 0} → S → Result ⊤ Nesting → Option S → Type 0
IsNested new (Ok done) meant = meant ≡ Some new
IsNested new (Err Bad) meant = meant ≡ None
IsNested new (Err nestings.NoMemory) meant = Unit {0}

-- the next of several values, and what is left
abbrev pub IsNext : {X S : Type 0} → S → Result (Option X) AllocError → Option (X × S) → Type 0
IsNext new (Ok None) meant = meant ≡ None
IsNext new (Ok (Some value)) meant = meant ≡ Some (value, new)
IsNext new (Err error) meant = Unit {0}
