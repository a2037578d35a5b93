-- What a call does to the bytes that a sink has taken.
use Rattle.std.specs.Prelude.{◌≡◌, ℕ, List, ◌++◌, take, Option, Some, None, Result, Ok, Err, ⊤}

-- Where a sink tells what it has taken: `Ok` appends all of these bytes, and an `Err` a front of them.
abbrev pub Takes : {E : Type 0} → Option (List ℕ) → List ℕ → Option (List ℕ) → Result ⊤ E → Type 0
Takes None bytes new result = Unit {0}
Takes (Some old) bytes new (Ok done) = new ≡ Some (old ++ bytes)
Takes (Some old) bytes new (Err error) = (n : ℕ) × (new ≡ Some (old ++ take n bytes))
