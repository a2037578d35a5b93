-- What is said of a text that is missing or too long, where that is the outcome.
use Rattle.std.proofs.Common.{◌≡◌, ◌<◌, ◌⊎◌, ℕ, List, length, map, Option, Some, None, IfSome, IsSomeAnd, MatchOption, MatchResult, Result, Ok, Err, sym, subst, ap, ◌∙◌, inl, inr, arith}
use Rattle.form_base.specs.Status.{code_of}
use Rattle.form_base.specs.declared.settings.Settings.{Settings}
use Rattle.form_base.specs.declared.status.Status.{Status}
use Rattle.form_base.specs.declared.status.Status.TheVariants.{Usage, Missing, TextTooLong}
use Rattle.form_outside.specs.Texts.{Texts, text_of}
use Rattle.form_preproc.specs.Expansion.{Expansion, IsExpanded, expanded, missing, refusal, refused as stopped, too_long, longest_text}
use Rattle.form_words.specs.declared.job.Job.{Job}
use Rattle.form_words.specs.Words.{job_of}
use Rattle.form_stmts.specs.Line.{PlacedLine}
use Rattle.form_check.specs.Checking.{program}
use Rattle.form_check.specs.Program.{Program}
use Rattle.form_right_side.specs.Refusal as text
use Rattle.form_engine.specs.Outcome.{Outcome, IsJobOutcome, IsExpansionOutcome, AreLines, line_of, program_outcome, refused, refused_at}
use Rattle.form_engine.proofs.Answered.{never_missing, never_too_long}
use Rattle.form_engine.proofs.Concluded.{Decided}
use Rattle.form_engine.proofs.Lengths.{IsLong, is_long, is_missing}
use Rattle.form_engine.proofs.Refusals.{IsOfRun, of_program}

-- how lines end: they were run, or they are refused
abbrev IsOfText : Status → Type 0
IsOfText status = IsOfRun status ⊎ (code_of status ≡ 3)

of_checked : (settings : Settings) (names : List (List ℕ)) (r : Result Program text.Refusal) (o : Outcome) →
    MatchResult r (λ p. o ≡ program_outcome settings p) (λ bad. o ≡ refused_at names bad.cause bad.spot) → IsOfText o.status
of_checked settings names (Ok p) o h = inl (of_program settings p o h)
of_checked settings names (Err bad) o e = inr (ap (λ (p : Outcome). code_of p.status) e)

of_lines : (settings : Settings) (names : List (List ℕ)) (lines : List PlacedLine) (o : Outcome) → AreLines settings names lines o → IsOfText o.status
of_lines settings names lines o (inl bad) = inr (ap (λ (p : Outcome). code_of p.status) bad.2)
of_lines settings names lines o (inr found) = of_checked settings names (program found.0) o found.2

not_missing : (status : Status) (name : List ℕ) → IsOfText status → status ≡ Missing name → ⊥
not_missing status name (inl run) e = never_missing name (subst (λ (s : Status). IsOfRun s) e run)
not_missing status name (inr three) e = let two = ap code_of e in omega (arith, three, two)

not_too_long : (status : Status) (name : List ℕ) → IsOfText status → status ≡ TextTooLong name → ⊥
not_too_long status name (inl run) e = never_too_long name (subst (λ (s : Status). IsOfRun s) e run)
not_too_long status name (inr three) e = let two = ap code_of e in omega (arith, three, two)

name_of_missing : (a b : List ℕ) → Missing a ≡ Missing b → a ≡ b
name_of_missing a b e = cc

name_of_too_long : (a b : List ℕ) → TextTooLong a ≡ TextTooLong b → a ≡ b
name_of_too_long a b e = cc

-- a text that is missing isn't there
missing_of : (job : Job) (all : Texts) (x : Expansion) (o : Outcome) (name : List ℕ) → IsExpanded all job.file x → IsExpansionOutcome job x o → o.status ≡ Missing name → text_of all name ≡ None
missing_of job all missing o name x is e =
    subst (λ (n : List ℕ). text_of all n ≡ None) (name_of_missing job.file name (sym (ap (λ (p : Outcome). p.status) is) ∙ e)) (is_missing all job.file x)
missing_of job all (refusal (too_long other)) o name x is e = let s = ap (λ (p : Outcome). p.status) is in cc
missing_of job all (refusal (stopped cause place)) o name x is e = let s = ap (λ (p : Outcome). p.status) is in cc
missing_of job all (expanded lines names) o name x is e = absurd (not_missing o.status name (of_lines job.settings names (map line_of lines) o is) e)

missing_of_words : (job : Option Job) (all : Texts) (o : Outcome) (name : List ℕ) → MatchOption job (o ≡ refused Usage) (λ job. IsJobOutcome all job o) → o.status ≡ Missing name → text_of all name ≡ None
missing_of_words None all o name is e = let s = ap (λ (p : Outcome). p.status) is in cc
missing_of_words (Some job) all o name is e = missing_of job all is.0 o name is.1 is.2 e

pub missing_text : (words : List (List ℕ)) (texts : Option Texts) (status : Status) → Decided words texts status
    → IfSome texts (λ all. (name : List ℕ) → status ≡ Missing name → text_of all name ≡ None)
missing_text words None status h = tt
missing_text words (Some all) status h = λ name e. missing_of_words (job_of words) all (record { bytes = h.0; status = status }) name h.1 e

-- one that is too long is longer than a text may be
too_long_of : (job : Job) (all : Texts) (x : Expansion) (o : Outcome) (name : List ℕ) → IsExpanded all job.file x → IsExpansionOutcome job x o → o.status ≡ TextTooLong name → IsLong all name
too_long_of job all missing o name x is e = let s = ap (λ (p : Outcome). p.status) is in cc
too_long_of job all (refusal (too_long other)) o name x is e =
    subst (λ (n : List ℕ). IsLong all n) (name_of_too_long other name (sym (ap (λ (p : Outcome). p.status) is) ∙ e)) (is_long all job.file other x)
too_long_of job all (refusal (stopped cause place)) o name x is e = let s = ap (λ (p : Outcome). p.status) is in cc
too_long_of job all (expanded lines names) o name x is e = absurd (not_too_long o.status name (of_lines job.settings names (map line_of lines) o is) e)

too_long_of_words : (job : Option Job) (all : Texts) (o : Outcome) (name : List ℕ) → MatchOption job (o ≡ refused Usage) (λ job. IsJobOutcome all job o) → o.status ≡ TextTooLong name → IsLong all name
too_long_of_words None all o name is e = let s = ap (λ (p : Outcome). p.status) is in cc
too_long_of_words (Some job) all o name is e = too_long_of job all is.0 o name is.1 is.2 e

pub too_long_text : (words : List (List ℕ)) (texts : Option Texts) (status : Status) → Decided words texts status
    → IfSome texts (λ all. (name : List ℕ) → status ≡ TextTooLong name → IsSomeAnd (text_of all name) (λ text. longest_text < length text))
too_long_text words None status h = tt
too_long_text words (Some all) status h = λ name e. too_long_of_words (job_of words) all (record { bytes = h.0; status = status }) name h.1 e
