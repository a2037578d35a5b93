-- An outcome ends with its modules done, with one of them refused, or is the line of a refusal.
use Rattle.std.proofs.Common.{◌≡◌, ◌⊎◌, ℕ, suc, List, [], ◌∷◌, map, Option, Some, None, MatchOption, MatchResult, Result, Ok, Err, refl, sym, subst, ap, ◌∙◌, inl, inr}
use Rattle.form_base.specs.declared.cause.Cause.{Cause}
use Rattle.form_base.specs.declared.place.Place.{Place}
use Rattle.form_base.specs.declared.place.Place.TheVariants.{Run}
use Rattle.form_base.specs.declared.settings.Settings.{Settings}
use Rattle.form_base.specs.declared.status.Status.{Status}
use Rattle.form_base.specs.declared.status.Status.TheVariants.{Done, Usage, RefusedRun}
use Rattle.form_outside.specs.Texts.{Texts}
use Rattle.form_words.specs.declared.job.Job.{Job}
use Rattle.form_words.specs.Words.{job_of}
use Rattle.form_preproc.specs.Expansion.{Expansion, expanded, missing, refusal, refused as stopped, too_long}
use Rattle.form_stmts.specs.Line.{PlacedLine}
use Rattle.form_names.specs.Names.{Entry}
use Rattle.form_check.specs.Checking.{program}
use Rattle.form_check.specs.Program.{Module, Program}
use Rattle.form_right_side.specs.Refusal as text
use Rattle.form_expand.specs.declared.stored.Stored.{Stored}
use Rattle.form_module.specs.Module.{Refusal, module_outcome}
use Rattle.form_print.specs.Printing.{name_of}
use Rattle.form_engine.specs.Outcome.{Outcome, IsOutcome, IsJobOutcome, IsExpansionOutcome, AreLines, after_module, carried_out, line_of, program_outcome, refused, refused_at}

-- what a status of modules that were carried out is
abbrev pub IsOfRun : Status → Type 0
IsOfRun status = (status ≡ Done) ⊎ ((cause : Cause) × (place : Place) × (status ≡ RefusedRun cause place))

abbrev pub IsRunOrRefused : Outcome → Type 0
IsRunOrRefused o = IsOfRun o.status ⊎ (o ≡ refused o.status)

is_refusal : (o : Outcome) (status : Status) → o ≡ refused status → IsRunOrRefused o
is_refusal o status e = inr (e ∙ ap refused (sym (ap (λ (p : Outcome). p.status) e)))

-- modules end with all of them done, or with one refused
of_module : (names : List Entry) (number : ℕ) (m : Module) (later : List Stored → Outcome) (r : Result (List Stored) Refusal) → ((after : List Stored) → IsOfRun (later after).status) →
    IsOfRun (after_module names number m later r).status
of_module names number m later (Err bad) goes_on = inr (bad.cause, Run number (name_of names bad.expression), refl)
of_module names number m later (Ok after) goes_on = goes_on after

of_modules : (settings : Settings) (names : List Entry) (number : ℕ) (ms : List Module) (standing : List Stored) → IsOfRun (carried_out settings names number ms standing).status
of_modules settings names number [] standing = inl refl
of_modules settings names number (m ∷ ms) standing =
    of_module names number m (λ after. carried_out settings names (suc number) ms after) (module_outcome settings m standing) (λ after. of_modules settings names (suc number) ms after)

pub of_program : (settings : Settings) (p : Program) (o : Outcome) → o ≡ program_outcome settings p → IsOfRun o.status
of_program settings p o e = subst (λ (q : Outcome). IsOfRun q.status) (sym e) (of_modules settings p.names 1 p.modules [])

of_checked : (settings : Settings) (names : List (List ℕ)) (r : Result Program text.Refusal) (o : Outcome) →
    MatchResult r (λ p. o ≡ program_outcome settings p) (λ bad. o ≡ refused_at names bad.cause bad.spot) → IsRunOrRefused o
of_checked settings names (Ok p) o h = inl (of_program settings p o h)
of_checked settings names (Err bad) o e = is_refusal o _ e

of_lines : (settings : Settings) (names : List (List ℕ)) (lines : List PlacedLine) (o : Outcome) → AreLines settings names lines o → IsRunOrRefused o
of_lines settings names lines o (inl bad) = is_refusal o _ bad.2
of_lines settings names lines o (inr found) = of_checked settings names (program found.0) o found.2

of_expansion : (job : Job) (x : Expansion) (o : Outcome) → IsExpansionOutcome job x o → IsRunOrRefused o
of_expansion job missing o e = is_refusal o _ e
of_expansion job (refusal (too_long name)) o e = is_refusal o _ e
of_expansion job (refusal (stopped cause place)) o e = is_refusal o _ e
of_expansion job (expanded lines names) o h = of_lines job.settings names (map line_of lines) o h

of_words : (job : Option Job) (texts : Texts) (o : Outcome) → MatchOption job (o ≡ refused Usage) (λ job. IsJobOutcome texts job o) → IsRunOrRefused o
of_words None texts o e = is_refusal o _ e
of_words (Some job) texts o h = of_expansion job h.0 o h.2

pub run_or_refused : (words : List (List ℕ)) (texts : Texts) (o : Outcome) → IsOutcome words texts o → IsRunOrRefused o
run_or_refused words texts o h = of_words (job_of words) texts o h
