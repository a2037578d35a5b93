-- What a count may have.
use Rattle.std.specs.Prelude.{ℕ, nat_le, nat_abs, Bool, ◌&&◌, List, length}
use Rattle.std.specs.List.{list_all}
use Rattle.form_tree.specs.declared.condition.Weighted.{Weighted}

-- the largest size of a weight, and the most pairs
abbrev pub largest_weight : ℕ
largest_weight = 1000000000

abbrev pub most_weights : ℕ
most_weights = 1000

abbrev pub is_weight : Weighted → Bool
is_weight w = nat_le (nat_abs w.weight) largest_weight

abbrev pub are_weights : List Weighted → Bool
are_weights ws = nat_le (length ws) most_weights && list_all is_weight ws
