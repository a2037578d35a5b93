-- Counts of faults. They are kept in a u64, so they stand still at its last value.
use Rattle.std.specs.Prelude.{◌≡◌, ◌<◌, ◌⊎◌, ℕ}

-- the last value of a u64, 2^64-1
abbrev pub last_count : ℕ
last_count = 18446744073709551615

-- a count rose in a call: it is greater after it, or stands at its last value
abbrev pub HasRisen : ℕ → ℕ → Type 0
HasRisen old new = (old < new) ⊎ (new ≡ last_count)
