-- Calls of one kind, and those of them that are to fail. The first is call 1.
use Rattle.std.specs.Prelude.{ℕ, ◌+◌, min, Bool, List, ◌==◌}
use Rattle.std.specs.List.{list_any}
use Rattle.form_outside.specs.Faults.{last_count}

-- whether a call is among those that are to fail
abbrev pub is_listed : List ℕ → ℕ → Bool
is_listed failing call = list_any (λ listed. listed == call) failing

-- a count after one more, which stands still at the last value of a u64
abbrev pub one_more : ℕ → ℕ
one_more count = min (count + 1) last_count
