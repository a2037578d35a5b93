-- The lines of a text that is taken up.
use Rattle.std.specs.Prelude.{◌≡◌, ℕ, List, map, Option, Some, None, Result, Ok, Err, ⊤}
use Rattle.form_base.specs.declared.cause.Cause.{Cause}
use Rattle.form_preproc.specs.Block.{Line, placed}
use Rattle.form_preproc.specs.declared.source.Source.{Source}
use Rattle.form_preproc.specs.declared.source.SourceError.{SourceError}
use Rattle.form_preproc.specs.declared.source.SourceError.TheVariants.{Refused, NoMemory}

abbrev pub lines_in : Source → List Line
lines_in source = map (λ line. placed source.name source.number line.line) source.lines.items

-- the cause and the line at which a text is refused
abbrev pub IsRefused : {X : Type 0} → SourceError → Result X (Cause × ℕ) → Type 0
IsRefused (Refused cause line) meant = meant ≡ Err (cause, line)
IsRefused NoMemory meant = Unit {0}

-- nothing is refused, or this
abbrev pub IsChecked : Result ⊤ SourceError → Option (Cause × ℕ) → Type 0
IsChecked (Ok done) meant = meant ≡ None
IsChecked (Err (Refused cause line)) meant = meant ≡ Some (cause, line)
IsChecked (Err NoMemory) meant = Unit {0}
