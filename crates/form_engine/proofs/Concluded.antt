-- What a call that wasn't stopped says of the outcome.
use Rattle.std.proofs.Common.{◌≡◌, ◌⊎◌, ℕ, List, Option, Some, None, IfSome, subst, ap, ◌∙◌, refl, inl, inr}
use Rattle.form_base.specs.declared.cause.Cause.{Cause}
use Rattle.form_base.specs.declared.place.Place.{Place}
use Rattle.form_base.specs.declared.status.Status.{Status}
use Rattle.form_base.specs.declared.status.Status.TheVariants.{Done, Usage, Missing, TextTooLong, RefusedText, RefusedRun, LibraryFault, SinkFault, StoreFault, StoreDamaged, OutOfMemory}
use Rattle.form_outside.specs.Texts.{Texts}
use Rattle.form_engine.specs.Call.{FollowsOutcome, IsStop, IsCarriedOut}
use Rattle.form_engine.specs.Outcome.{Outcome, IsOutcome, refused}
use Rattle.form_engine.proofs.Refusals.{run_or_refused}

-- where neither count rose, only want of memory stops a call
pub only_memory : (library sink : Type 0) (status : Status) → (library → ⊥) → (sink → ⊥) → IsStop library sink (λ store. ⊥) status → status ≡ OutOfMemory
only_memory library sink LibraryFault no_library no_sink stop = absurd (no_library stop)
only_memory library sink SinkFault no_library no_sink stop = absurd (no_sink stop)
only_memory library sink (StoreFault store) no_library no_sink stop = absurd stop
only_memory library sink OutOfMemory no_library no_sink stop = refl
only_memory library sink Done no_library no_sink stop = absurd stop
only_memory library sink Usage no_library no_sink stop = absurd stop
only_memory library sink (Missing name) no_library no_sink stop = absurd stop
only_memory library sink (TextTooLong name) no_library no_sink stop = absurd stop
only_memory library sink (RefusedText cause place) no_library no_sink stop = absurd stop
only_memory library sink (RefusedRun cause place) no_library no_sink stop = absurd stop
only_memory library sink (StoreDamaged store run place kept found) no_library no_sink stop = absurd stop

-- words and texts have at most one outcome
abbrev pub OneOutcome : Type 0
OneOutcome = (words : List (List ℕ)) (texts : Texts) (o p : Outcome) → IsOutcome words texts o → IsOutcome words texts p → o ≡ p

-- the outcome, whichever is meant, was carried out, where only want of memory could have stopped the call
pub carried_out_or_memory : OneOutcome → (words : List (List ℕ)) (texts : Option Texts) (old new : Option (List ℕ)) (status : Status) (stop : Type 0) → (stop → status ≡ OutOfMemory) → FollowsOutcome words texts old new status stop
    → IfSome texts (λ all. IfSome old (λ taken. (outcome : Outcome) → IsOutcome words all outcome → IsCarriedOut outcome taken new status ⊎ (status ≡ OutOfMemory)))
carried_out_or_memory one words None old new status stop memory h = tt
carried_out_or_memory one words (Some all) None new status stop memory h = tt
carried_out_or_memory one words (Some all) (Some taken) new status stop memory h = λ outcome is.
    let same : h.0 ≡ outcome = one words all h.0 outcome h.1 is in
    elim h.2 [ inl done ↦ inl (subst (λ (o : Outcome). IsCarriedOut o taken new status) same done) | inr early ↦ inr (memory early.why) ]

text_refusal_at : (words : List (List ℕ)) (all : Texts) (o : Outcome) (cause : Cause) (place : Place) → IsOutcome words all o → o.status ≡ RefusedText cause place → IsOutcome words all (refused (RefusedText cause place))
text_refusal_at words all o cause place is e = elim (run_or_refused words all o is) [
  | inl (inl done) ↦ cc
  | inl (inr run) ↦ let status = run.2 in cc
  | inr line ↦ subst (λ (p : Outcome). IsOutcome words all p) (line ∙ ap refused e) is
]

-- what was decided, where the library tells: an outcome of this status
abbrev pub Decided : List (List ℕ) → Option Texts → Status → Type 0
Decided words texts status = IfSome texts (λ all. (bytes : List ℕ) × IsOutcome words all (record { bytes = bytes; status = status }))

-- a refusal of the text that is answered is the outcome
pub text_refusal : (words : List (List ℕ)) (texts : Option Texts) (status : Status) → Decided words texts status
    → IfSome texts (λ all. (cause : Cause) (place : Place) → status ≡ RefusedText cause place → IsOutcome words all (refused (RefusedText cause place)))
text_refusal words None status h = tt
text_refusal words (Some all) status h = λ cause place e. text_refusal_at words all (record { bytes = h.0; status = status }) cause place h.1 e

too_long_at : (words : List (List ℕ)) (all : Texts) (o : Outcome) (name : List ℕ) → IsOutcome words all o → o.status ≡ TextTooLong name → IsOutcome words all (refused (TextTooLong name))
too_long_at words all o name is e = elim (run_or_refused words all o is) [
  | inl (inl done) ↦ cc
  | inl (inr run) ↦ let status = run.2 in cc
  | inr line ↦ subst (λ (p : Outcome). IsOutcome words all p) (line ∙ ap refused e) is
]

-- so is a text that is too long
pub too_long_refusal : (words : List (List ℕ)) (texts : Option Texts) (status : Status) → Decided words texts status
    → IfSome texts (λ all. (name : List ℕ) → status ≡ TextTooLong name → IsOutcome words all (refused (TextTooLong name)))
too_long_refusal words None status h = tt
too_long_refusal words (Some all) status h = λ name e. too_long_at words all (record { bytes = h.0; status = status }) name h.1 e
