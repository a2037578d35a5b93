-- Things put on top of each other: a list, the newest first.
use Rattle.std.specs.Prelude.{ℕ, ◌-◌, List, length, drop}

-- the oldest n of them, or all
abbrev pub oldest : {A : Type 0} → ℕ → List A → List A
oldest n xs = drop (length xs - n) xs
