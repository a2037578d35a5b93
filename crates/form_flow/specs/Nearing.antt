-- How many terms may go on their way yet at most, which is less with each step.
use Rattle.std.specs.Prelude.{ℕ, zero, suc, ◌+◌, ◌*◌, ◌<◌, ◌≤◌, List, length, sum_by, Option, Some, None, Result, Ok, Err}
use Rattle.form_term.specs.declared.monomial.Monomial.{Monomial}
use Rattle.form_expand.specs.declared.error.ExpandError.{ExpandError}
use Rattle.form_flow.specs.declared.descent.Descent.{Descent}
use Rattle.form_flow.specs.declared.descent.Frame.{Frame}
use Rattle.form_flow.specs.declared.descent.Step.{Step}
use Rattle.form_flow.specs.declared.descent.Step.TheVariants as step
use Rattle.form_flow.specs.declared.effect.Effect.{Effect}
use Rattle.form_flow.specs.declared.effect.Effect.TheVariants as effect
use Rattle.form_flow.specs.Left.{limits_of}
use Rattle.form_flow.specs.Sources.{listed}
use Rattle.form_flow.specs.Statement.{Limits}
use Rattle.form_flow.specs.Weight.{path_weight}

unfoldable pub two_to : ℕ → ℕ
two_to zero = 1
two_to (suc n) = two_to n + two_to n

-- those of a frame: each of its terms goes by its path
abbrev pub frame_ahead : Limits → Frame → ℕ
frame_ahead at f = suc (length (listed f.source).terms) * two_to (path_weight at f.path)

abbrev pub frames_ahead : Limits → List Frame → ℕ
frames_ahead at fs = sum_by (frame_ahead at) fs

abbrev pub way_weight : Descent → ℕ
way_weight d = path_weight (limits_of d) d.path

abbrev pub waiting_ahead : Descent → ℕ
waiting_ahead d = frames_ahead (limits_of d) d.frames.items

-- with a term on its way
abbrev pub on_way_ahead : Descent → ℕ
on_way_ahead d = two_to (way_weight d) + waiting_ahead d

abbrev pub first_ahead : Descent → Option Monomial → ℕ
first_ahead d None = 0
first_ahead d (Some m) = two_to (way_weight d)

abbrev pub ahead : Descent → ℕ
ahead d = first_ahead d d.first + waiting_ahead d

-- a list of at most so many terms goes on: one on its way, and the others wait
abbrev pub Waits : Result (Option Monomial) ExpandError → ℕ → Descent → Descent → Type 0
Waits (Ok (Some m)) n old new = on_way_ahead new ≤ suc n * two_to (way_weight old) + waiting_ahead old
Waits (Ok None) n old new = waiting_ahead new ≤ waiting_ahead old
Waits (Err e) n old new = Unit {0}

-- a statement of this weight was carried out
abbrev pub Spends : Result (Option Monomial) ExpandError → ℕ → Descent → Descent → Type 0
Spends (Ok (Some m)) n old new = on_way_ahead new ≤ two_to (n + way_weight old) + waiting_ahead old
Spends (Ok None) n old new = waiting_ahead new ≤ two_to (n + way_weight old) + waiting_ahead old
Spends (Err e) n old new = Unit {0}

-- at most so many terms come of it
abbrev pub IsMost : Effect → ℕ → Type 0
IsMost (effect.Source s) n = length (listed s).terms ≤ n
IsMost e n = Unit {0}

-- a term goes on
abbrev pub Starts : Result (Option Monomial) ExpandError → Descent → Descent → Type 0
Starts (Ok (Some m)) old new = on_way_ahead new ≤ ahead old
Starts (Ok None) old new = Unit {0}
Starts (Err e) old new = Unit {0}

-- a term on its way came nearer to its end
abbrev pub Nears : Result Step ExpandError → Descent → Descent → Type 0
Nears (Ok (step.On m)) old new = on_way_ahead new < on_way_ahead old
Nears (Ok (step.Out m)) old new = ahead new < on_way_ahead old
Nears (Ok step.Gone) old new = ahead new < on_way_ahead old
Nears (Err e) old new = Unit {0}

-- it came to its end
abbrev pub Ends : Result (Option Monomial) ExpandError → Descent → Descent → Type 0
Ends (Ok m) old new = ahead new < on_way_ahead old
Ends (Err e) old new = Unit {0}

-- an output was given
abbrev pub Lessens : Result (Option Monomial) ExpandError → Descent → Descent → Type 0
Lessens (Ok (Some m)) old new = ahead new < ahead old
Lessens (Ok None) old new = Unit {0}
Lessens (Err e) old new = Unit {0}
