-- Words and texts have exactly one outcome, and what one says of its status.
use Rattle.std.proofs.Common.{◌≡◌, ◌⊎◌, ℕ, List, map, Option, Some, None, MatchOption, MatchResult, Result, Ok, Err, subst, sym, ap, ◌∙◌, refl, inl, inr}
use Rattle.form_base.specs.declared.cause.Cause.TheVariants.{BadSyntax}
use Rattle.form_base.specs.declared.place.Place.TheVariants.{Line}
use Rattle.form_base.specs.declared.settings.Settings.{Settings}
use Rattle.form_base.specs.declared.spot.Spot.{Spot}
use Rattle.form_base.specs.declared.status.Status.TheVariants.{Usage, Missing, TextTooLong, RefusedText}
use Rattle.form_outside.specs.Texts.{Texts}
use Rattle.form_words.specs.declared.job.Job.{Job}
use Rattle.form_words.specs.Words.{job_of}
use Rattle.form_preproc.specs.Expansion.{Expansion, IsExpanded, expanded, missing, refusal, refused as stopped, too_long}
use Rattle.form_stmts.specs.Line.{PlacedLine}
use Rattle.form_ast.specs.declared.module.PlacedPart.{PlacedPart}
use Rattle.form_stmts.specs.Program.{IsProgram, IsRefused}
use Rattle.form_check.specs.Checking.{program}
use Rattle.form_check.specs.Program.{Program}
use Rattle.form_right_side.specs.Refusal as text
use Rattle.form_engine.specs.Outcome.{Outcome, IsOutcome, IsJobOutcome, IsExpansionOutcome, AreLines, AreStatements, line_of, program_outcome, refused, refused_at}

-- what is known of the parts of an outcome
pub record Laws : Type 0 where
  pub some_expansion : (texts : Texts) (file : List ℕ) → (x : Expansion) × IsExpanded texts file x
  pub one_expansion : (texts : Texts) (file : List ℕ) (x y : Expansion) → IsExpanded texts file x → IsExpanded texts file y → x ≡ y
  pub some_reading : (lines : List PlacedLine) → ((modules : List (List PlacedPart)) × IsProgram lines modules) ⊎ ((spot : Spot) × IsRefused lines spot)
  pub one_program : (lines : List PlacedLine) (modules others : List (List PlacedPart)) → IsProgram lines modules → IsProgram lines others → modules ≡ others
  pub one_refusal : (lines : List PlacedLine) (spot other : Spot) → IsRefused lines spot → IsRefused lines other → spot ≡ other
  pub never_both : (lines : List PlacedLine) (modules : List (List PlacedPart)) (spot : Spot) → IsProgram lines modules → IsRefused lines spot → ⊥

-- ---- there is one

of_checked : (settings : Settings) (names : List (List ℕ)) (r : Result Program text.Refusal) →
    (o : Outcome) × MatchResult r (λ p. o ≡ program_outcome settings p) (λ bad. o ≡ refused_at names bad.cause bad.spot)
of_checked settings names (Ok p) = (program_outcome settings p, refl)
of_checked settings names (Err bad) = (refused_at names bad.cause bad.spot, refl)

some_lines : Laws → (settings : Settings) (names : List (List ℕ)) (lines : List PlacedLine) → (o : Outcome) × AreLines settings names lines o
some_lines laws settings names lines = elim (laws.some_reading lines) [
  | inl found ↦ let here = of_checked settings names (program found.0) in (here.0, inr (found.0, found.1, here.1))
  | inr bad ↦ (refused_at names BadSyntax bad.0, inl (bad.0, bad.1, refl))
]

some_of_expansion : Laws → (job : Job) (x : Expansion) → (o : Outcome) × IsExpansionOutcome job x o
some_of_expansion laws job missing = (refused (Missing job.file), refl)
some_of_expansion laws job (refusal (too_long name)) = (refused (TextTooLong name), refl)
some_of_expansion laws job (refusal (stopped cause place)) = (refused (RefusedText cause (Line place.file place.line)), refl)
some_of_expansion laws job (expanded lines names) = some_lines laws job.settings names (map line_of lines)

some_words : Laws → (job : Option Job) (texts : Texts) → (o : Outcome) × MatchOption job (o ≡ refused Usage) (λ job. IsJobOutcome texts job o)
some_words laws None texts = (refused Usage, refl)
some_words laws (Some job) texts =
    let x = laws.some_expansion texts job.file in
    let o = some_of_expansion laws job x.0 in
    (o.0, (x.0, x.1, o.1))

pub some_outcome : Laws → (words : List (List ℕ)) (texts : Texts) → (o : Outcome) × IsOutcome words texts o
some_outcome laws words texts = some_words laws (job_of words) texts

-- ---- there is no other

one_checked : (settings : Settings) (names : List (List ℕ)) (r : Result Program text.Refusal) (o p : Outcome) →
    MatchResult r (λ q. o ≡ program_outcome settings q) (λ bad. o ≡ refused_at names bad.cause bad.spot) →
    MatchResult r (λ q. p ≡ program_outcome settings q) (λ bad. p ≡ refused_at names bad.cause bad.spot) → o ≡ p
one_checked settings names (Ok q) o p a b = a ∙ sym b
one_checked settings names (Err bad) o p a b = a ∙ sym b

one_lines : Laws → (settings : Settings) (names : List (List ℕ)) (lines : List PlacedLine) (o p : Outcome) → AreLines settings names lines o → AreLines settings names lines p → o ≡ p
one_lines laws settings names lines o p (inl a) (inl b) = a.2 ∙ ap (refused_at names BadSyntax) (laws.one_refusal lines a.0 b.0 a.1 b.1) ∙ sym b.2
one_lines laws settings names lines o p (inl a) (inr b) = absurd (laws.never_both lines b.0 a.0 b.1 a.1)
one_lines laws settings names lines o p (inr a) (inl b) = absurd (laws.never_both lines a.0 b.0 a.1 b.1)
one_lines laws settings names lines o p (inr a) (inr b) =
    one_checked settings names (program a.0) o p a.2 (subst (λ (modules : List (List PlacedPart)). AreStatements settings names modules p) (sym (laws.one_program lines a.0 b.0 a.1 b.1)) b.2)

one_of_expansion : Laws → (job : Job) (x : Expansion) (o p : Outcome) → IsExpansionOutcome job x o → IsExpansionOutcome job x p → o ≡ p
one_of_expansion laws job missing o p a b = a ∙ sym b
one_of_expansion laws job (refusal (too_long name)) o p a b = a ∙ sym b
one_of_expansion laws job (refusal (stopped cause place)) o p a b = a ∙ sym b
one_of_expansion laws job (expanded lines names) o p a b = one_lines laws job.settings names (map line_of lines) o p a b

one_words : Laws → (job : Option Job) (texts : Texts) (o p : Outcome) → MatchOption job (o ≡ refused Usage) (λ job. IsJobOutcome texts job o) →
    MatchOption job (p ≡ refused Usage) (λ job. IsJobOutcome texts job p) → o ≡ p
one_words laws None texts o p a b = a ∙ sym b
one_words laws (Some job) texts o p a b =
    one_of_expansion laws job b.0 o p (subst (λ (x : Expansion). IsExpansionOutcome job x o) (laws.one_expansion texts job.file a.0 b.0 a.1 b.1) a.2) b.2

pub unique_outcome : Laws → (words : List (List ℕ)) (texts : Texts) (o p : Outcome) → IsOutcome words texts o → IsOutcome words texts p → o ≡ p
unique_outcome laws words texts o p a b = one_words laws (job_of words) texts o p a b
