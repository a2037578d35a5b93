-- What is kept while lines act, and what they do to it.
use Rattle.std.specs.Prelude.{◌≡◌, ◌<◌, ◌≤◌, ℕ, suc, List, [], ◌∷◌, ◌++◌, length, drop, Option, Some, None, Result, Ok, Err, IfSome}
use Rattle.form_base.specs.declared.cause.Cause.{Cause}
use Rattle.form_lines.specs.Program.{most_lines}
use Rattle.form_preproc.specs.Block.{Line, placed, taken_up}
use Rattle.form_preproc.specs.Expansion as expansion
use Rattle.form_outside.specs.Texts.{Texts}
use Rattle.form_preproc.specs.Expansion.{Ending, Does, State, Place, Request, finished, inside, goes, ends, stops, stopped, too_long}
use Rattle.form_preproc.specs.Kept.{kept_in}
use Rattle.form_preproc.specs.Procedures.{procedures_in}
use Rattle.form_preproc.specs.Sources.{lines_in}
use Rattle.form_preproc.specs.Variables.{Heights, first_heights, other_calls}
use Rattle.form_preproc.specs.declared.frame.Site.{Site}
use Rattle.form_preproc.specs.declared.frame.After as afters
use Rattle.form_preproc.specs.declared.frame.After.TheVariants as follows
use Rattle.form_preproc.specs.declared.frame.Entry.{Entry}
use Rattle.form_preproc.specs.declared.frame.Action.{Action}
use Rattle.form_preproc.specs.declared.frame.Action.TheVariants.{Goes, Ends, Enters}
use Rattle.form_preproc.specs.declared.machine.Machine.{Machine}
use Rattle.form_preproc.specs.declared.source.Source.{Source}
use Rattle.form_preproc.specs.declared.source.SourceLine.{SourceLine}
use Rattle.form_preproc.specs.declared.stop.StopError.{StopError}
use Rattle.form_preproc.specs.declared.stop.StopError.TheVariants.{Refused, TooLong, Memory}
use Rattle.form_preproc.specs.declared.stop.ExpandError.{ExpandError}
use Rattle.form_preproc.specs.declared.stop.ExpandError.TheVariants.{Stopped, Library}

abbrev pub state_of : Machine → State
state_of m = record {
  values = (kept_in m.variables).values;
  procedures = procedures_in m.procedures;
  texts = m.names;
  acted = m.acted;
  handed = m.handed;
}

-- the heights when each open call began
abbrev pub calls_of : Machine → List Heights
calls_of m = (kept_in m.variables).calls

abbrev pub line_of : Source → SourceLine → Line
line_of source line = placed source.name source.number line.line

-- the lines behind a place
abbrev pub behind_place : Source → ℕ → List Line
behind_place source place = drop (suc place) (lines_in source)

abbrev pub site_place : Site → Place
site_place site = record { file = site.source.value.name; line = site.line }

-- what follows, where these were the heights when the call began
abbrev pub after_of : afters.After → Heights → expansion.After
after_of follows.Branch heights = expansion.branch
after_of follows.Included heights = expansion.included
after_of (follows.Turn t) heights = expansion.turn (site_place t.site) t.name t.height t.turns (drop t.body (lines_in t.site.source.value))
after_of (follows.Fetched f) heights = expansion.fetched (site_place f.site) f.name f.arguments heights
after_of follows.Called heights = expansion.called heights

-- the calls that are open outside
abbrev pub calls_behind : afters.After → List Heights → List Heights
calls_behind follows.Branch calls = calls
calls_behind follows.Included calls = calls
calls_behind (follows.Turn t) calls = calls
calls_behind (follows.Fetched f) calls = other_calls calls
calls_behind follows.Called calls = other_calls calls

abbrev pub lines_of : Entry → List Line
lines_of e = drop e.place (lines_in e.source.value)

-- the request is done with in this way
abbrev pub IsDone : Request → Result Action StopError → Machine → Type 0
IsDone r (Ok Goes) m = r ≡ finished (goes (state_of m))
IsDone r (Ok Ends) m = r ≡ finished (ends (state_of m))
IsDone r (Ok (Enters e)) m = r ≡ inside (state_of m) (lines_of e) (after_of e.after (first_heights (calls_of m)))
IsDone r (Err (Refused cause file line)) m = r ≡ stopped (record { file = file; line = line }) cause
IsDone r (Err (TooLong name)) m = r ≡ finished (stops (too_long name))
IsDone r (Err Memory) m = Unit {0}

-- the calls that were open are those outside what acts now
abbrev pub AreKept : List Heights → Result Action StopError → Machine → Type 0
AreKept calls (Ok Goes) m = calls_of m ≡ calls
AreKept calls (Ok Ends) m = calls_of m ≡ calls
AreKept calls (Ok (Enters e)) m = calls_behind e.after (calls_of m) ≡ calls
AreKept calls (Err error) m = Unit {0}

-- lines that act have been counted, and nothing else
abbrev pub IsCounted : ℕ → Result Action StopError → ℕ → Type 0
IsCounted old (Ok Goes) new = new ≡ old
IsCounted old (Ok Ends) new = new ≡ old
IsCounted old (Ok (Enters e)) new = (old < new) × (new ≤ most_lines)
IsCounted old (Err error) new = Unit {0}

-- what a line gives or why it stops
abbrev pub IsGiven : {X : Type 0} → Place → Result X Cause → Result X StopError → Type 0
IsGiven place meant (Ok x) = meant ≡ Ok x
IsGiven place meant (Err (Refused cause file line)) = (meant ≡ Err cause) × (place ≡ record { file = file; line = line })
IsGiven place meant (Err (TooLong name)) = ⊥
IsGiven place meant (Err Memory) = Unit {0}

-- the same where the library may have failed
abbrev pub IsDoneOver : Request → Result Action ExpandError → Machine → Type 0
IsDoneOver r (Ok action) m = IsDone r (Ok action) m
IsDoneOver r (Err (Stopped stop)) m = IsDone r (Err stop) m
IsDoneOver r (Err Library) m = Unit {0}

abbrev pub AreKeptOver : List Heights → Result Action ExpandError → Machine → Type 0
AreKeptOver calls (Ok action) m = AreKept calls (Ok action) m
AreKeptOver calls (Err error) m = Unit {0}

-- what is asked for then, where it is told
abbrev pub met : Result Action StopError → Machine → Option Request
met (Ok Goes) m = Some (finished (goes (state_of m)))
met (Ok Ends) m = Some (finished (ends (state_of m)))
met (Ok (Enters e)) m = Some (inside (state_of m) (lines_of e) (after_of e.after (first_heights (calls_of m))))
met (Err (Refused cause file line)) m = Some (stopped (record { file = file; line = line }) cause)
met (Err (TooLong name)) m = Some (finished (stops (too_long name)))
met (Err Memory) m = None

-- one request leads to another: however that ends, it ends so
abbrev pub IsLed : Request → Request → Type 0
IsLed r q = (texts : Texts) (depth : ℕ) (e : Ending) → Does texts depth q e → Does texts depth r e

-- the request leads to what is asked for then
abbrev pub Leads : Request → Result Action StopError → Machine → Type 0
Leads r result m = IfSome (met result m) (λ q. IsLed r q)

-- a text that was asked for: there is none of that name, or its lines act
abbrev pub IsFetchedText : Texts → State → List ℕ → Result (Option Source) ExpandError → Machine → Type 0
IsFetchedText texts s name (Ok None) m = ((absent : Request) (after : expansion.After) → expansion.fetching texts s name absent after ≡ absent) × (state_of m ≡ s)
IsFetchedText texts s name (Ok (Some source)) m = (absent : Request) (after : expansion.After) → expansion.fetching texts s name absent after ≡ inside (state_of m) (lines_in source) after
IsFetchedText texts s name (Err (Stopped stop)) m = (absent : Request) (after : expansion.After) → IsDone (expansion.fetching texts s name absent after) (Err stop) m
IsFetchedText texts s name (Err Library) m = Unit {0}

-- a text that was fetched: its lines, or why it is refused
abbrev pub IsTakenText : State → List ℕ → List ℕ → Result Source StopError → Machine → Type 0
IsTakenText s name bytes (Ok source) m = (taken_up name (length s.texts) bytes ≡ Ok (lines_in source)) × (state_of m ≡ record s { texts = s.texts ++ name ∷ [] })
IsTakenText s name bytes (Err (Refused cause file line)) m = (taken_up name (length s.texts) bytes ≡ Err (cause, line)) × (file ≡ name)
IsTakenText s name bytes (Err (TooLong file)) m = ⊥
IsTakenText s name bytes (Err Memory) m = Unit {0}

-- the same of a request that asks for texts, with so many calls open
abbrev pub LeadsOver : Texts → ℕ → Request → Result Action ExpandError → Machine → Type 0
LeadsOver texts depth r (Ok action) m = IfSome (met (Ok action) m) (λ q. (e : Ending) → Does texts depth q e → Does texts depth r e)
LeadsOver texts depth r (Err (Stopped stop)) m = IfSome (met (Err stop) m) (λ q. (e : Ending) → Does texts depth q e → Does texts depth r e)
LeadsOver texts depth r (Err Library) m = Unit {0}
