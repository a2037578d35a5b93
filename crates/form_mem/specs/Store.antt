-- What a store in memory holds.
use Rattle.std.specs.Prelude.{ℕ, List, Option, Vec, map, option_map}
use Rattle.form_outside.specs.Runs.{Contents, lengths_in}
use Rattle.form_mem.specs.declared.store.MemStore.{MemStore}

-- the bytes of a run, none where it was removed
abbrev pub held_bytes : {A : Type 0} → Option (Vec ℕ A) → Option (List ℕ)
held_bytes run = option_map (λ bytes. bytes.items) run

-- the bytes of each run
abbrev pub runs_of : MemStore → Contents
runs_of store = map held_bytes store.runs.items

-- the length of each run
abbrev pub lengths_of : MemStore → List (Option ℕ)
lengths_of store = lengths_in (runs_of store)
