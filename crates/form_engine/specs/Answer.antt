-- What a call is to do, as it is kept once its words and the library's text have decided it.
use Rattle.std.specs.Prelude.{◌≡◌, ◌≤◌, ℕ, List, [], Option, Result, Ok, Err}
use Rattle.form_base.specs.declared.status.Status.{Status}
use Rattle.form_base.specs.Status.{code_of}
use Rattle.form_outside.specs.Taken.{Takes}
use Rattle.form_outside.specs.declared.sink.SinkErr.{SinkErr}
use Rattle.form_base.specs.declared.status.Status.TheVariants.{RefusedRun}
use Rattle.form_check.specs.Sound.{IsSound}
use Rattle.form_module.specs.declared.error.ModuleError as module_error
use Rattle.form_module.specs.declared.error.ModuleError.TheVariants as module_errors
use Rattle.form_engine.specs.declared.answer.Answer.{Answer}
use Rattle.form_engine.specs.declared.answer.Answer.TheVariants.{Runs, Refused}
use Rattle.form_engine.specs.declared.stop.Stop.{Stop}
use Rattle.form_engine.specs.declared.stop.Stop.TheVariants.{Memory}
use Rattle.form_engine.specs.Outcome.{Outcome, program_outcome, refused}

-- the outcome of an answer: a refusal's line, or what the program makes
abbrev pub IsAnswerOutcome : Answer → Outcome → Type 0
IsAnswerOutcome (Refused status) outcome = outcome ≡ refused status
IsAnswerOutcome (Runs settings program) outcome = outcome ≡ program_outcome settings program

-- the sink has taken the outcome's bytes and the status is its status, or a front of the bytes
abbrev pub Carries : Option (List ℕ) → Outcome → Option (List ℕ) → Result Status Stop → Type 0
Carries old outcome new (Ok status) = Takes {E = SinkErr} old outcome.bytes new (Ok tt) × (status ≡ outcome.status)
Carries old outcome new (Err stop) = Takes old outcome.bytes new (Err stop)

-- what is left where all is put: the status
abbrev pub nothing_more : Status → Outcome
nothing_more status = record { bytes = []; status = status }

-- a program that was checked
abbrev pub IsSoundAnswer : Answer → Type 0
IsSoundAnswer (Refused status) = Unit {0}
IsSoundAnswer (Runs settings program) = IsSound program

-- a refusal before anything runs
abbrev pub IsEarly : Answer → Type 0
IsEarly (Refused status) = code_of status ≤ 3
IsEarly (Runs settings program) = Unit {0}

-- a refusal that says so of the text's contents, or a program
abbrev pub IsOfText : Answer → Type 0
IsOfText (Refused status) = code_of status ≡ 3
IsOfText (Runs settings program) = Unit {0}

-- what ends a run at a module: the line that refuses it was put, or memory ran out
abbrev pub Stops : Option (List ℕ) → module_error.ModuleError → Option (List ℕ) → Result Status Stop → Type 0
Stops old (module_errors.Refused cause place) new result = Carries old (refused (RefusedRun cause place)) new result
Stops old module_errors.Memory new result = (result ≡ Err Memory) × (new ≡ old)
