-- What a part of a block asks for.
use Rattle.std.specs.Prelude.{◌≡◌, ◌<◌, ◌≤◌, ℕ, Bool, true, false, List, drop, Option, Some, None}
use Rattle.form_preproc.specs.Block.{Line}
use Rattle.form_preproc.specs.Expansion.{State, Request, finished, inside, goes, branch, choosing}
use Rattle.form_preproc.specs.Sources.{lines_in}
use Rattle.form_preproc.specs.declared.choosing.Part.{Part}
use Rattle.form_preproc.specs.declared.choosing.Part.TheVariants.{Over, Begins}
use Rattle.form_preproc.specs.declared.source.Source.{Source}

abbrev pub part_request : State → List Line → Part → Request
part_request s rest Over = finished (goes s)
part_request s rest (Begins holds) = choosing s rest holds

abbrev pub branch_request : State → Source → Option ℕ → Request
branch_request s source None = finished (goes s)
branch_request s source (Some place) = inside s (drop place (lines_in source)) branch

-- a part that doesn't act has been counted
abbrev pub IsPartCounted : ℕ → ℕ → Part → Type 0
IsPartCounted old new Over = new ≡ old
IsPartCounted old new (Begins true) = old ≤ new
IsPartCounted old new (Begins false) = old < new
