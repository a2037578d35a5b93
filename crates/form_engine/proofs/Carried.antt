-- How far a call came with its outcome, at each of its ends.
use Rattle.std.proofs.Common.{◌≡◌, ◌≢◌, ◌≤◌, ◌<◌, ℕ, arith, List, [], ◌++◌, length, Option, Some, None, IfSome, IfOk, Result, Ok, Err, sym, subst, ap, ◌∙◌, refl, inl, inr}
use Rattle.std.specs.Prelude.{⊤}
use Rattle.std.proofs.lemmas.List.{append-nil}
use Rattle.std.proofs.Math.Seq.{take-nil, take-length}
use Rattle.form_base.specs.declared.status.Status.{Status}
use Rattle.form_outside.specs.Faults.{HasRisen, last_count}
use Rattle.form_outside.specs.declared.sink.SinkErr.{SinkErr}
use Rattle.form_outside.specs.Taken.{Takes}
use Rattle.form_outside.specs.Texts.{Texts}
use Rattle.form_preproc.specs.Answer.{IsAnswer}
use Rattle.form_preproc.specs.declared.file.Expanded.{Expanded}
use Rattle.form_preproc.specs.declared.file.FileError.{FileError}
use Rattle.form_words.specs.declared.job.Job.{Job}
use Rattle.form_engine.specs.Answer.{IsAnswerOutcome, Carries, nothing_more}
use Rattle.form_engine.specs.Call.{IsStop, FollowsOutcome}
use Rattle.form_engine.specs.Outcome.{Outcome, IsOutcome, IsJobOutcome}
use Rattle.form_engine.specs.Stop.{status_of, ending}
use Rattle.form_engine.specs.declared.answer.Answer.{Answer}
use Rattle.form_engine.specs.declared.stop.Stop.{Stop}
use Rattle.form_engine.specs.declared.stop.Stop.TheVariants.{Library, Sink, Memory}

-- words and texts have an outcome
abbrev pub HasOutcome : Type 0
HasOutcome = (words : List (List ℕ)) (texts : Texts) → (o : Outcome) × IsOutcome words texts o

-- the call was stopped before anything was written
pub stopped_before : HasOutcome → (words : List (List ℕ)) (texts : Option Texts) (old new : Option (List ℕ)) (status : Status) (stop : Type 0) → new ≡ old → stop → FollowsOutcome words texts old new status stop
stopped_before has words None old new status stop same why = tt
stopped_before has words (Some all) None new status stop same why = tt
stopped_before has words (Some all) (Some taken) new status stop same why =
    let o = has words all in
    (o.0, o.1, inr (record { count = 0; front = same ∙ ap Some (sym (append-nil taken)); why = why }))

-- the call was stopped when it finished: all is written
pub stopped_at_end : {E : Type 0} (words : List (List ℕ)) (texts : Option Texts) (old mid new : Option (List ℕ)) (outcome : Outcome) (done : ⊤) (error : E) (status : Status) (stop : Type 0)
    → IfSome texts (λ all. IsOutcome words all outcome) → Takes {E = E} old outcome.bytes mid (Ok done) → Takes mid [] new (Err error) → stop → FollowsOutcome words texts old new status stop
stopped_at_end words None old mid new outcome done error status stop is took ended why = tt
stopped_at_end words (Some all) None mid new outcome done error status stop is took ended why = tt
stopped_at_end {E} words (Some all) (Some taken) mid new outcome done error status stop is took ended why =
    let end : Takes (Some (taken ++ outcome.bytes)) [] new (Err error) = subst (λ (m : Option (List ℕ)). Takes m [] new (Err error)) took ended in
    (outcome, is, inr (record { count = length outcome.bytes; front = end.1 ∙ ap Some (ap (λ rest. (taken ++ outcome.bytes) ++ rest) (take-nil end.0) ∙ append-nil (taken ++ outcome.bytes) ∙ ap (λ bytes. taken ++ bytes) (sym (take-length outcome.bytes))); why = why }))

-- the outcome was carried out
pub carried_out : (E : Type 0) (words : List (List ℕ)) (texts : Option Texts) (old mid new : Option (List ℕ)) (outcome : Outcome) (done finished : ⊤) (status : Status) (stop : Type 0)
    → IfSome texts (λ all. IsOutcome words all outcome) → Takes {E = E} old outcome.bytes mid (Ok done) → Takes {E = E} mid [] new (Ok finished) → status ≡ outcome.status → FollowsOutcome words texts old new status stop
carried_out E words None old mid new outcome done finished status stop is took ended e = tt
carried_out E words (Some all) None mid new outcome done finished status stop is took ended e = tt
carried_out E words (Some all) (Some taken) mid new outcome done finished status stop is took ended e =
    let end : Takes {E = E} (Some (taken ++ outcome.bytes)) [] new (Ok finished) = subst (λ (m : Option (List ℕ)). Takes {E = E} m [] new (Ok finished)) took ended in
    (outcome, is, inl (record { all = end ∙ ap Some (append-nil (taken ++ outcome.bytes)); ending = e }))

-- a count that rose, and doesn't stand at its last value at first, is greater at the end
pub risen : (old new : ℕ) → HasRisen old new → old ≢ last_count → old ≤ new → old < new
risen old new (inl more) below grows = more
risen old new (inr last) below grows = omega arith

-- an error of a call that would have answered an A
abbrev pub error_of : {E : Type 0} → (A : Type 0) → E → Result A E
error_of A e = Err e

-- what stopped a call before it wrote has its cause
pub library_stop : (A sink : Type 0) (old new : ℕ) (early : Stop) → (error_of A early ≡ Err Library → HasRisen old new) → error_of A early ≢ Err Sink → old ≢ last_count → old ≤ new
    → IsStop (old < new) sink (λ store. ⊥) (status_of early)
library_stop A sink old new Library rose never below grows = risen old new (rose refl) below grows
library_stop A sink old new Sink rose never below grows = absurd (never refl)
library_stop A sink old new Memory rose never below grows = tt

-- where the library tells its texts, each outcome of an answer is that of the words
abbrev pub Decides : List (List ℕ) → Option Texts → Answer → Type 0
Decides words texts answer = IfSome texts (λ all. (o : Outcome) → IsAnswerOutcome answer o → IsOutcome words all o)

pub decided : (words : List (List ℕ)) (texts : Option Texts) (answer : Answer) (o : Outcome) → Decides words texts answer → IsAnswerOutcome answer o → IfSome texts (λ all. IsOutcome words all o)
decided words None answer o h is = tt
decided words (Some all) answer o h is = h o is

-- so there is an outcome of the status that was answered
pub decided_status : (words : List (List ℕ)) (texts : Option Texts) (answer : Answer) (o : Outcome) (status : Status) → Decides words texts answer → IsAnswerOutcome answer o → status ≡ o.status →
    IfSome texts (λ all. (bytes : List ℕ) × IsOutcome words all (record { bytes = bytes; status = status }))
decided_status words None answer o status h is e = tt
decided_status words (Some all) answer o status h is e = (o.bytes, subst (λ (s : Status). IsOutcome words all (record { bytes = o.bytes; status = s })) (sym e) (h o is))

-- it was written, and then the sink was finished, or not
pub finished : (words : List (List ℕ)) (texts : Option Texts) (answer : Answer) (o : Outcome) (old mid new : Option (List ℕ)) (status : Status) (result : Result Status Stop) (stop : Type 0) →
    Decides words texts answer → IsAnswerOutcome answer o → Carries old o mid (Ok status) → Carries mid (nothing_more status) new result →
    ((early : Stop) → result ≡ Err early → stop) → FollowsOutcome words texts old new (ending result) stop
finished words texts answer o old mid new status (Ok answered) stop h is put end why =
    carried_out SinkErr words texts old mid new o tt tt answered stop (decided words texts answer o h is) put.0 end.0 (end.1 ∙ put.1)
finished words texts answer o old mid new status (Err early) stop h is put end why =
    stopped_at_end words texts old mid new o tt early (status_of early) stop (decided words texts answer o h is) (as_stop old o.bytes mid put.0) end (why early refl)
  where
    as_stop : (a : Option (List ℕ)) (p : List ℕ) (b : Option (List ℕ)) → Takes {E = SinkErr} a p b (Ok tt) → Takes {E = Stop} a p b (Ok tt)
    as_stop None p b h = tt
    as_stop (Some old) p b h = h

-- what is to be done for what the preprocessor answers is to be done for the job
pub job_decided : (job : Job) (texts : Option Texts) (x : Result Expanded FileError) (r : Result Answer Stop) → IfSome texts (λ all. IsAnswer all job.file x) →
    IfOk r (λ answer. (all : Texts) → IsAnswer all job.file x → (o : Outcome) → IsAnswerOutcome answer o → IsJobOutcome all job o) →
    IfOk r (λ answer. IfSome texts (λ all. (o : Outcome) → IsAnswerOutcome answer o → IsJobOutcome all job o))
job_decided job texts x (Err stop) known h = tt
job_decided job None x (Ok answer) known h = tt
job_decided job (Some all) x (Ok answer) known h = h all known
