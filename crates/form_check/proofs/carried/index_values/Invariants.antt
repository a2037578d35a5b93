use Rattle.std.proofs.Common.{◌≡◌, drop}
use Rattle.form_right_side.specs.RightSide.{largest_index, value_within}
use Rattle.form_right_side.specs.Refusal.{listed}
use Rattle.form_right_side.proofs.Loops.{behind}
use Rattle.form_check.proofs.carried.index_values.Given as goal

-- what was read and what is left give what all give
abbrev pub invariant-loop-number : goal.invariant-loop-number
invariant-loop-number l = listed (value_within largest_index) l.written ≡ behind l.values.items (listed (value_within largest_index) (drop l.number-index l.written))
