-- What a call does.
use Rattle.std.specs.Prelude.{◌≡◌, ◌<◌, ◌⊎◌, ℕ, List, ◌++◌, map, take, Option, Some, String, string_bytes, slice_get, IfSome}
use Rattle.std.specs.declared.alloc.Global.{Global}
use Rattle.form_base.specs.declared.status.Status.{Status}
use Rattle.form_base.specs.declared.status.Status.TheVariants.{LibraryFault, SinkFault, StoreFault, OutOfMemory}
use Rattle.form_outside.specs.Texts.{Texts}
use Rattle.form_engine.specs.Outcome.{Outcome, IsOutcome}

-- the words, each as its bytes
abbrev pub bytes_of_words : List (String Global) → List (List ℕ)
bytes_of_words words = map string_bytes words

-- The status names a device whose count rose, or want of memory.
abbrev pub IsStop : Type 0 → Type 0 → (ℕ → Type 0) → Status → Type 0
IsStop library_rose sink_rose store_rose LibraryFault = library_rose
IsStop library_rose sink_rose store_rose SinkFault = sink_rose
IsStop library_rose sink_rose store_rose (StoreFault store) = store_rose store
IsStop library_rose sink_rose store_rose OutOfMemory = Unit {0}
IsStop library_rose sink_rose store_rose status = ⊥

-- the count of the store of this number rose between two lists of all stores
abbrev pub HasStoreRisen : {S : Type 0} → (S → ℕ) → List S → List S → ℕ → Type 0
HasStoreRisen {S} faults old new store =
    (before : S) × (after : S) × (slice_get old store ≡ Some before) × (slice_get new store ≡ Some after) × (faults before < faults after)

-- The sink has taken all of the outcome's bytes, and the status is the outcome's.
pub record IsCarriedOut (outcome : Outcome) (old : List ℕ) (new : Option (List ℕ)) (status : Status) : Type 0 where
  pub all : new ≡ Some (old ++ outcome.bytes)
  pub ending : status ≡ outcome.status

-- The sink has taken a front of the outcome's bytes, and the status says what stopped the call.
pub record IsStopped (outcome : Outcome) (old : List ℕ) (new : Option (List ℕ)) (stop : Type 0) : Type 0 where
  pub count : ℕ
  pub front : new ≡ Some (old ++ take count outcome.bytes)
  pub why : stop

-- the outcome of the words and texts was carried out, or the call was stopped within it
abbrev pub IsDoneOrStopped : List (List ℕ) → Texts → List ℕ → Option (List ℕ) → Status → Type 0 → Type 0
IsDoneOrStopped words texts old new status stop =
    (outcome : Outcome) × IsOutcome words texts outcome × (IsCarriedOut outcome old new status ⊎ IsStopped outcome old new stop)

-- The headline, where a library and a sink tell what they hold: the sink's bytes before and after the call, and the status.
abbrev pub FollowsOutcome : List (List ℕ) → Option Texts → Option (List ℕ) → Option (List ℕ) → Status → Type 0 → Type 0
FollowsOutcome words texts old new status stop = IfSome texts (λ all. IfSome old (λ taken. IsDoneOrStopped words all taken new status stop))
