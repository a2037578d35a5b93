-- The innermost frame, from which the next term comes that goes on.
use Rattle.std.specs.Prelude.{◌≡◌, ◌+◌, ◌≤◌, ◌++◌, ◌∷◌, [], false, List, Option, Some, None, Result, Ok, Err}
use Rattle.form_base.specs.declared.cause.Cause.{Cause}
use Rattle.form_term.specs.declared.monomial.Monomial.{Monomial}
use Rattle.form_expand.specs.declared.error.ExpandError.{ExpandError}
use Rattle.form_expand.specs.declared.error.ExpandError.TheVariants.{Refused, Memory}
use Rattle.form_flow.specs.declared.descent.Descent.{Descent}
use Rattle.form_flow.specs.declared.descent.Frame.{Frame}
use Rattle.form_flow.specs.declared.path.Path.{Path}
use Rattle.form_flow.specs.Left.{left_of_frame}
use Rattle.form_flow.specs.Nearing.{frame_ahead, two_to}
use Rattle.form_flow.specs.Outcome.{Outcome, and_then, refusal}
use Rattle.form_flow.specs.Paths.{ways}
use Rattle.form_flow.specs.Statement.{Limits}
use Rattle.form_flow.specs.Ways.{Acting, finish}
use Rattle.form_flow.specs.Weight.{path_weight}

-- The next term of a frame goes by this path, and another one waits in it; or the one that waits in it is its last, behind which
-- its source has ended.
abbrev pub Advances : Acting → Result (Option Monomial) ExpandError → Outcome → Path → Frame → Type 0
Advances act (Ok (Some m)) old path new = old ≡ and_then (finish (ways act path) false m) (left_of_frame act new)
Advances act (Ok None) old path new = old ≡ finish (ways act new.path) false new.next
Advances act (Err (Refused cause)) old path new = old ≡ and_then (finish (ways act new.path) false new.next) (refusal cause)
Advances act (Err Memory) old path new = Unit {0}

-- the terms that may go on their way yet
abbrev pub Takes : Limits → Result (Option Monomial) ExpandError → Frame → Path → Frame → Type 0
Takes at (Ok (Some m)) old path new = two_to (path_weight at path) + frame_ahead at new ≤ frame_ahead at old
Takes at (Ok None) old path new = two_to (path_weight at new.path) ≤ frame_ahead at old
Takes at (Err (Refused cause)) old path new = two_to (path_weight at new.path) ≤ frame_ahead at old
Takes at (Err Memory) old path new = Unit {0}

-- the innermost frame goes, and its term goes by its path
abbrev pub TakesFrame : Option Monomial → Descent → Descent → Type 0
TakesFrame None old new = (fs : List Frame) (f : Frame) → old.frames.items ≡ fs ++ f ∷ [] → ⊥
TakesFrame (Some m) old new = (new ≡ record old { path = new.path; frames = new.frames })
    × ((fs : List Frame) (f : Frame) → old.frames.items ≡ fs ++ f ∷ [] → (m ≡ f.next) × (new.path ≡ f.path) × (new.frames.items ≡ fs))

-- all frames go, and the term of the innermost one goes by its path; behind it stands a refusal
abbrev pub TakesLast : Option Monomial → Cause → Descent → Descent → Type 0
TakesLast None cause old new = (fs : List Frame) (f : Frame) → old.frames.items ≡ fs ++ f ∷ [] → ⊥
TakesLast (Some m) cause old new = (new ≡ record old { path = new.path; frames = new.frames; end = Some cause }) × (new.frames.items ≡ [])
    × ((fs : List Frame) (f : Frame) → old.frames.items ≡ fs ++ f ∷ [] → (m ≡ f.next) × (new.path ≡ f.path))
