-- The outcome of a call: what it writes, and how it ends.
use Rattle.std.specs.Prelude.{◌≡◌, ◌⊎◌, ℕ, suc, ◌∷◌, [], ◌++◌, List, map, slice_index_or, Result, Ok, Err, MatchOption, MatchResult}
use Rattle.form_base.specs.declared.cause.Cause.{Cause}
use Rattle.form_base.specs.declared.cause.Cause.TheVariants.{BadSyntax}
use Rattle.form_base.specs.declared.place.Place.TheVariants.{Line, Run}
use Rattle.form_base.specs.declared.settings.Settings.{Settings}
use Rattle.form_base.specs.declared.spot.Spot.{Spot}
use Rattle.form_base.specs.declared.status.Status.{Status}
use Rattle.form_base.specs.declared.status.Status.TheVariants.{Done, Usage, Missing, TextTooLong, RefusedText, RefusedRun}
use Rattle.form_base.specs.Status.{status_text}
use Rattle.form_outside.specs.Texts as library
use Rattle.form_words.specs.declared.job.Job.{Job}
use Rattle.form_words.specs.Words.{job_of}
use Rattle.form_preproc.specs.Expansion.{Expansion, expanded, missing, refusal, refused as stopped, too_long, IsExpanded}
use Rattle.form_preproc.specs.declared.handed.Handed.{Handed}
use Rattle.form_names.specs.Names.{Entry}
use Rattle.form_ast.specs.declared.module.PlacedPart.{PlacedPart}
use Rattle.form_stmts.specs.Line.{PlacedLine}
use Rattle.form_stmts.specs.Program.{IsProgram, IsRefused}
use Rattle.form_check.specs.Checking.{program}
use Rattle.form_check.specs.Program.{Module, Program}
use Rattle.form_expand.specs.declared.stored.Stored.{Stored}
use Rattle.form_module.specs.Module.{Refusal, module_outcome}
use Rattle.form_print.specs.Printing.{name_of}
use Rattle.form_engine.specs.Printed.{printed_module}

pub record Outcome : Type 0 where
  pub bytes : List ℕ
  pub status : Status

-- a refusal: its line
abbrev pub refused : Status → Outcome
refused status = record { bytes = status_text status ++ 10 ∷ []; status = status }

-- all was carried out
abbrev pub done : Outcome
done = record { bytes = []; status = Done }

-- what was printed before an outcome
abbrev pub behind : List ℕ → Outcome → Outcome
behind bytes outcome = record { bytes = bytes ++ outcome.bytes; status = outcome.status }

-- what a module of a number leads to: the line of its refusal, or what it prints and what comes of what stands after it
abbrev pub after_module : List Entry → ℕ → Module → (List Stored → Outcome) → Result (List Stored) Refusal → Outcome
after_module names number m later (Err bad) = refused (RefusedRun bad.cause (Run number (name_of names bad.expression)))
after_module names number m later (Ok after) = behind (printed_module names m.statements after) (later after)

-- The outcome of the modules from this number on, over the expressions that stand: each prints, up to the first that is refused.
abbrev pub carried_out : Settings → List Entry → ℕ → List Module → List Stored → Outcome
carried_out settings names number [] standing = done
carried_out settings names number (m ∷ ms) standing =
    after_module names number m (λ after. carried_out settings names (suc number) ms after) (module_outcome settings m standing)

-- the outcome of a program: its modules from no expressions
abbrev pub program_outcome : Settings → Program → Outcome
program_outcome settings p = carried_out settings p.names 1 p.modules []

-- a line that is handed on, as one of a program
abbrev pub line_of : Handed → PlacedLine
line_of handed = record { spot = handed.spot; text = handed.text }

-- the name of the text of a number
abbrev pub name_at : List (List ℕ) → ℕ → List ℕ
name_at names number = slice_index_or names number []

-- a refusal at a spot, where the texts have these names
abbrev pub refused_at : List (List ℕ) → Cause → Spot → Outcome
refused_at names cause spot = refused (RefusedText cause (Line (name_at names spot.text) spot.line))

-- the outcome of statements: the first refusal in the order of the text, or that of the program
abbrev pub AreStatements : Settings → List (List ℕ) → List (List PlacedPart) → Outcome → Type 0
AreStatements settings names modules outcome =
    MatchResult (program modules) (λ p. outcome ≡ program_outcome settings p) (λ refusal. outcome ≡ refused_at names refusal.cause refusal.spot)

-- the outcome of lines: BadSyntax at the first statement outside the grammar, or that of the statements
abbrev pub AreLines : Settings → List (List ℕ) → List PlacedLine → Outcome → Type 0
AreLines settings names lines outcome =
    ((spot : Spot) × IsRefused lines spot × (outcome ≡ refused_at names BadSyntax spot))
    ⊎ ((modules : List (List PlacedPart)) × IsProgram lines modules × AreStatements settings names modules outcome)

-- the outcome of what the preprocessor makes of FILE: its refusal, or that of the lines that it hands on
abbrev pub IsExpansionOutcome : Job → Expansion → Outcome → Type 0
IsExpansionOutcome job missing outcome = outcome ≡ refused (Missing job.file)
IsExpansionOutcome job (refusal (too_long name)) outcome = outcome ≡ refused (TextTooLong name)
IsExpansionOutcome job (refusal (stopped cause place)) outcome = outcome ≡ refused (RefusedText cause (Line place.file place.line))
IsExpansionOutcome job (expanded lines names) outcome = AreLines job.settings names (map line_of lines) outcome

-- the outcome of a job over a library's texts
abbrev pub IsJobOutcome : library.Texts → Job → Outcome → Type 0
IsJobOutcome texts job outcome = (x : Expansion) × IsExpanded texts job.file x × IsExpansionOutcome job x outcome

-- The outcome of words and a library's texts.
abbrev pub IsOutcome : List (List ℕ) → library.Texts → Outcome → Type 0
IsOutcome words texts outcome = MatchOption (job_of words) (outcome ≡ refused Usage) (λ job. IsJobOutcome texts job outcome)
