-- What the status that a call answers says of what was to be done.
use Rattle.std.proofs.Common.{◌≡◌, ◌≢◌, ◌≤◌, ◌<◌, ℕ, arith, List, Option, Result, Ok, Err, IfOk, sym, subst, ap, ◌∙◌, refl, inl, inr}
use Rattle.form_base.specs.declared.status.Status.{Status}
use Rattle.form_base.specs.declared.status.Status.TheVariants.{Usage, Missing, TextTooLong}
use Rattle.form_base.specs.Status.{code_of}
use Rattle.form_outside.specs.Faults.{HasRisen, last_count}
use Rattle.form_engine.specs.Answer.{IsAnswerOutcome, IsEarly, Carries, nothing_more}
use Rattle.form_engine.specs.Call.{IsStop}
use Rattle.form_engine.specs.Outcome.{Outcome, refused}
use Rattle.form_engine.specs.Stop.{ending}
use Rattle.form_engine.specs.declared.answer.Answer.{Answer}
use Rattle.form_engine.specs.declared.answer.Answer.TheVariants.{Runs, Refused}
use Rattle.form_engine.specs.declared.stop.Stop.{Stop}
use Rattle.form_engine.specs.declared.stop.Stop.TheVariants.{Library, Sink, Memory}
use Rattle.form_engine.proofs.Carried.{risen}
use Rattle.form_engine.proofs.Refusals.{IsOfRun, of_program}

-- the line of a refusal was put, or stopped
pub refusal_carried : (old new : Option (List ℕ)) (answer : Answer) (status : Status) (result : Result Status Stop) → answer ≡ Refused status → Carries old (refused status) new result →
    (o : Outcome) × IsAnswerOutcome answer o × Carries old o new result
refusal_carried old new answer status result is carried = (refused status, subst (λ (a : Answer). IsAnswerOutcome a (refused status)) (sym is) refl, carried)

-- a status that no run ends with is that of a refusal
pub refused_status : (answer : Answer) (o : Outcome) (status : Status) → IsAnswerOutcome answer o → o.status ≡ status → (IsOfRun status → ⊥) → answer ≡ Refused status
refused_status (Refused s) o status is e never = ap Refused (sym (ap (λ (p : Outcome). p.status) is) ∙ e)
refused_status (Runs settings p) o status is e never = absurd (never (subst (λ (s : Status). IsOfRun s) e (of_program settings p o is)))

pub never_usage : IsOfRun Usage → ⊥
never_usage (inl done) = cc
never_usage (inr run) = let is = run.2 in cc

pub never_missing : (name : List ℕ) → IsOfRun (Missing name) → ⊥
never_missing name (inl done) = cc
never_missing name (inr run) = let is = run.2 in cc

pub never_too_long : (name : List ℕ) → IsOfRun (TextTooLong name) → ⊥
never_too_long name (inl done) = cc
never_too_long name (inr run) = let is = run.2 in cc

code_of_run : (status : Status) → IsOfRun status → code_of status ≤ 4
code_of_run status (inl done) = let e = ap code_of done in omega (arith, e)
code_of_run status (inr run) = let e = ap code_of run.2 in omega (arith, e)

-- whatever is to be done, its status is no stop
pub answered_code : (answer : Answer) (o : Outcome) → IsEarly answer → IsAnswerOutcome answer o → code_of o.status ≤ 4
answered_code (Refused s) o early is = let e = ap (λ (p : Outcome). code_of p.status) is in omega (arith, e, early)
answered_code (Runs settings p) o early is = code_of_run o.status (of_program settings p o is)

-- what holds of the status holds of what is answered when the sink is finished
pub of_finished : (Q : Status → Type 0) (mid new : Option (List ℕ)) (status : Status) (result : Result Status Stop) → Carries mid (nothing_more status) new result → Q status → IfOk result Q
of_finished Q mid new status (Ok answered) end q = subst Q (sym end.1) q
of_finished Q mid new status (Err early) end q = tt

-- what stopped the finish has its cause
pub finish_stop : (library : Type 0) (old mid new : ℕ) (result : Result Status Stop) (early : Stop) → result ≡ Err early → (result ≡ Err Sink → HasRisen mid new) → result ≢ Err Library →
    old ≢ last_count → mid ≡ old → mid ≤ new → IsStop library (old < new) (λ store. ⊥) (ending result)
finish_stop library old mid new result Library is rose never below same grows = absurd (never is)
finish_stop library old mid new result Sink is rose never below same grows =
    subst (λ (r : Result Status Stop). IsStop library (old < new) (λ store. ⊥) (ending r)) (sym is)
    (risen old new (subst (λ (m : ℕ). HasRisen m new) same (rose is)) below (subst (λ (m : ℕ). m ≤ new) same grows))
finish_stop library old mid new result Memory is rose never below same grows =
    subst (λ (r : Result Status Stop). IsStop library (old < new) (λ store. ⊥) (ending r)) (sym is) tt
