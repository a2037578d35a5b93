-- What the lines that are acting come to, and how much is left to do.
use Rattle.std.specs.Prelude.{◌≡◌, ◌<◌, ℕ, suc, ◌+◌, ◌-◌, ◌*◌, Bool, true, false, List, [], ◌∷◌, Result, Ok, Err}
use Rattle.form_lines.specs.Program.{most_lines}
use Rattle.form_outside.specs.Texts.{Texts}
use Rattle.form_preproc.specs.Expansion.{State, Ending, goes, ends, stops, refused, too_long}
use Rattle.form_preproc.specs.Frames.{Running, running, Continues}
use Rattle.form_preproc.specs.Machine.{state_of, calls_of}
use Rattle.form_preproc.specs.declared.expander.Expander.{Expander}
use Rattle.form_preproc.specs.declared.expander.Step.{Step}
use Rattle.form_preproc.specs.declared.expander.Step.TheVariants as step
use Rattle.form_preproc.specs.declared.frame.Action.{Action}
use Rattle.form_preproc.specs.declared.frame.Action.TheVariants.{Goes, Ends, Enters}
use Rattle.form_preproc.specs.declared.frame.Frame.{Frame}
use Rattle.form_preproc.specs.declared.frame.After.{After}
use Rattle.form_preproc.specs.declared.frame.After.TheVariants.{Branch, Included, Turn, Fetched, Called}
use Rattle.form_preproc.specs.declared.stop.ExpandError.{ExpandError}
use Rattle.form_preproc.specs.declared.stop.ExpandError.TheVariants.{Stopped, Library}
use Rattle.form_preproc.specs.declared.stop.StopError.{StopError}
use Rattle.form_preproc.specs.declared.stop.StopError.TheVariants.{Refused, TooLong, Memory}

abbrev pub ContinuesIn : Texts → Expander → Ending → Type 0
ContinuesIn texts x e = Continues texts (running x.frames (calls_of x.machine)) (state_of x.machine) e

-- these lines stop so; want of memory and a failing library are free
abbrev pub IsStopped : Texts → List Running → State → ExpandError → Type 0
IsStopped texts rs s (Stopped (Refused cause file line)) = Continues texts rs s (stops (refused cause (record { file = file; line = line })))
IsStopped texts rs s (Stopped (TooLong name)) = Continues texts rs s (stops (too_long name))
IsStopped texts rs s (Stopped Memory) = Unit {0}
IsStopped texts rs s Library = Unit {0}

abbrev pub IsStoppedIn : Texts → Expander → ExpandError → Type 0
IsStoppedIn texts x error = IsStopped texts (running x.frames (calls_of x.machine)) (state_of x.machine) error

-- one step: what is left goes on as all did, or all has ended
abbrev pub IsStepped : Texts → List Running → State → Result Step ExpandError → Expander → Type 0
IsStepped texts rs s (Ok step.Goes) new = (e : Ending) → ContinuesIn texts new e → Continues texts rs s e
IsStepped texts rs s (Ok step.Ends) new = Continues texts rs s (ends (state_of new.machine))
IsStepped texts rs s (Ok step.Over) new = Continues texts rs s (goes (state_of new.machine))
IsStepped texts rs s (Err error) new = IsStopped texts rs s error

-- all steps: whether a line ended the program
abbrev pub IsRun : Texts → Expander → Result Bool ExpandError → Expander → Type 0
IsRun texts old (Ok true) new = ContinuesIn texts old (ends (state_of new.machine))
IsRun texts old (Ok false) new = ContinuesIn texts old (goes (state_of new.machine))
IsRun texts old (Err error) new = IsStoppedIn texts old error

-- how many calls are open inside, where so many are outside
abbrev pub depth_inside : After → ℕ → ℕ
depth_inside Branch depth = depth
depth_inside (Turn t) depth = depth
depth_inside Included depth = suc depth
depth_inside (Fetched f) depth = suc depth
depth_inside Called depth = suc depth

-- how many calls are open
abbrev pub depth_now : List Frame → ℕ
depth_now [] = 0
depth_now (f ∷ fs) = f.depth

-- what a line asks for has been begun
abbrev pub IsFollowed : Expander → Action → Result Step ExpandError → Expander → Type 0
IsFollowed old Goes result new = (result ≡ Ok step.Goes) × (new ≡ old)
IsFollowed old Ends result new = (result ≡ Ok step.Ends) × (new ≡ old)
IsFollowed old (Enters e) (Ok done) new =
    (done ≡ step.Goes) × (new ≡ record { machine = old.machine; frames = record { entry = e; depth = depth_inside e.after (depth_now old.frames) } ∷ old.frames })
IsFollowed old (Enters e) (Err error) new = error ≡ Stopped Memory

-- a call's text that has acted may still begin a body without a further count
abbrev pub weight_of : After → ℕ
weight_of (Fetched f) = 2
weight_of _ = 1

abbrev pub weights : List Frame → ℕ
weights [] = 0
weights (f ∷ fs) = weight_of f.entry.after + weights fs

abbrev pub entered : Action → ℕ
entered Goes = 0
entered Ends = 0
entered (Enters e) = weight_of e.after

-- how many lines and turns may still act
abbrev pub left : ℕ → ℕ
left acted = 3 * (most_lines - acted)

-- what falls with each step
abbrev pub rank : Expander → ℕ
rank x = left x.machine.acted + weights x.frames

-- what was done falls below what it was done for
abbrev pub IsSmaller : ℕ → Result Action StopError → ℕ → Type 0
IsSmaller old (Ok action) new = left new + entered action < old
IsSmaller old (Err error) new = Unit {0}
