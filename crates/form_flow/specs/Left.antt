-- What a term has left while its outputs are taken, one by one.
use Rattle.std.specs.Prelude.{◌≡◌, ◌-◌, [], false, List, fold, Option, Some, None, Result, Ok, Err, is_some, IsTrue, ⊤}
use Rattle.form_base.specs.declared.cause.Cause.{Cause}
use Rattle.form_term.specs.declared.monomial.Monomial.{Monomial}
use Rattle.form_expand.specs.declared.error.ExpandError.{ExpandError}
use Rattle.form_expand.specs.declared.error.ExpandError.TheVariants.{Refused, Memory}
use Rattle.form_expand.specs.Listing as listing
use Rattle.form_expand.specs.Listing.{Listing, nothing, before, limited}
use Rattle.form_flow.specs.declared.descent.Descent.{Descent}
use Rattle.form_flow.specs.declared.descent.Frame.{Frame}
use Rattle.form_flow.specs.declared.descent.Step.{Step}
use Rattle.form_flow.specs.declared.descent.Step.TheVariants as step
use Rattle.form_flow.specs.declared.outputs.Outputs.{Outputs}
use Rattle.form_flow.specs.Outcome.{Outcome, acted_or_not, and_then, bind, cause_of, end_of, gone, listing_of, refusal, silent, unchanged}
use Rattle.form_flow.specs.Paths.{ways}
use Rattle.form_flow.specs.Sources.{listed}
use Rattle.form_flow.specs.Statement.{Limits}
use Rattle.form_flow.specs.Statements.{action}
use Rattle.form_flow.specs.Ways.{Acting, Way, finish, out}

abbrev pub limits_of : Descent → Limits
limits_of d = d.compiled.now.limits

-- the next of a list, and what is left of it
abbrev pub Nexts : Result (Option Monomial) ExpandError → Listing → Listing → Type 0
Nexts (Ok (Some m)) old new = old ≡ before m new
Nexts (Ok None) old new = old ≡ nothing
Nexts (Err (Refused cause)) old new = old ≡ listing.refusal cause
Nexts (Err Memory) old new = Unit {0}

-- each term of a list goes on its way
abbrev pub going : List Way → Listing → Outcome
going ws l = bind (λ y. finish ws false y.item) (acted_or_not false l)

-- what comes of the term of a frame and of those behind it from the same source
abbrev pub left_of_frame : Acting → Frame → Outcome
left_of_frame act f = and_then (finish (ways act f.path) false f.next) (going (ways act f.path) (listed f.source))

abbrev pub and_outer : Acting → Outcome → Frame → Outcome
and_outer act outer f = and_then (left_of_frame act f) outer

-- no output any more
abbrev pub ending : Option Cause → Outcome
ending cause = record { outputs = []; end = end_of false cause }

-- the innermost frame is the last; behind all of them stands the end
unfoldable pub left_of_frames : Acting → Option Cause → List Frame → Outcome
left_of_frames act end frames = fold (and_outer act) (ending end) frames

-- what comes now, and then what waits
abbrev pub now : Descent → (Acting → Outcome) → Outcome
now d first = let act = action (limits_of d) in
    and_then (silent d.has_acted) (and_then (first act) (left_of_frames act d.end d.frames.items))

abbrev pub waiting : Descent → Option Monomial → Acting → Outcome
waiting d None act = gone
waiting d (Some m) act = finish (ways act d.path) false m

-- what is left
abbrev pub left : Descent → Outcome
left d = now d (waiting d d.first)

-- what is left, with a term on its way
abbrev pub on_way : Monomial → Descent → Outcome
on_way m d = now d (λ act. finish (ways act d.path) false m)

-- what is left, with what a statement has made, which goes on
abbrev pub pending : Outcome → Descent → Outcome
pending made d = now d (λ act. bind (out (ways act d.path)) made)

-- what is left of the outputs themselves: at most so many more
unfoldable pub outputs_left : Outputs → Listing
outputs_left o = limited (o.limit - o.given) (listing_of (left o.descent))

-- it is refused; nothing is said where memory ran out
abbrev pub Refuses : ExpandError → Outcome → Type 0
Refuses (Refused cause) o = o ≡ refusal cause
Refuses Memory o = Unit {0}

-- what has become of what was to go on: a term that goes on, nothing further, or a refusal
abbrev pub Moves : Result (Option Monomial) ExpandError → Outcome → Descent → Type 0
Moves (Ok (Some m)) old new = (old ≡ on_way m new) × (new.first ≡ None)
Moves (Ok None) old new = (old ≡ left new) × (new.first ≡ None)
Moves (Err e) old new = Refuses e old

-- the next term that goes on its way, or the end
abbrev pub Begins : Result (Option Monomial) ExpandError → Outcome → Descent → Type 0
Begins (Ok (Some m)) old new = (old ≡ on_way m new) × (new.first ≡ None)
Begins (Ok None) old new = (old ≡ silent new.has_acted) × (left new ≡ silent new.has_acted)
Begins (Err e) old new = Refuses e old

-- what a step makes of a term on its way
abbrev pub Steps : Result Step ExpandError → Outcome → Descent → Type 0
Steps (Ok (step.On m)) old new = (old ≡ on_way m new) × (new.first ≡ None)
Steps (Ok (step.Out m)) old new = old ≡ and_then (unchanged m) (left new)
Steps (Ok step.Gone) old new = (old ≡ left new) × (new.first ≡ None)
Steps (Err e) old new = Refuses e old

-- a statement is a step
abbrev pub step_of : Result (Option Monomial) ExpandError → Result Step ExpandError
step_of (Ok (Some m)) = Ok (step.On m)
step_of (Ok None) = Ok step.Gone
step_of (Err e) = Err e

-- an output comes, or none of this term
abbrev pub Passes : Result (Option Monomial) ExpandError → Outcome → Descent → Type 0
Passes (Ok (Some m)) old new = old ≡ and_then (unchanged m) (left new)
Passes (Ok None) old new = old ≡ left new
Passes (Err e) old new = Refuses e old

-- the next output, or the end
abbrev pub Gives : Result (Option Monomial) ExpandError → Outcome → Descent → Type 0
Gives (Ok (Some m)) old new = old ≡ and_then (unchanged m) (left new)
Gives (Ok None) old new = (old ≡ silent new.has_acted) × (left new ≡ silent new.has_acted)
Gives (Err e) old new = Refuses e old

-- a term that goes on, and what is left then ends as it did; or a refusal at its end
abbrev pub Follows : Result (Option Monomial) ExpandError → Outcome → Descent → Type 0
Follows (Ok (Some m)) old new = (cause_of old.end ≡ cause_of (on_way m new).end) × (new.first ≡ None)
Follows (Ok None) old new = Unit {0}
Follows (Err (Refused cause)) old new = cause_of old.end ≡ Some cause
Follows (Err Memory) old new = Unit {0}

-- a refusal that was met ahead is the end
abbrev pub Foresees : Result ⊤ ExpandError → Outcome → Type 0
Foresees (Ok _) o = Unit {0}
Foresees (Err (Refused cause)) o = cause_of o.end ≡ Some cause
Foresees (Err Memory) o = Unit {0}

-- a list that is refused, at once or behind its terms
abbrev pub IsRefused : Listing → Type 0
IsRefused l = IsTrue (is_some l.end)
