use Rattle.std.proofs.Common.{◌≡◌, drop}
use Rattle.form_check.specs.Carried.{summed_index}
use Rattle.form_right_side.specs.Refusal.{listed}
use Rattle.form_right_side.proofs.Loops.{behind}
use Rattle.form_check.proofs.carried.summed_indices.Given as goal

-- what was read and what is left give what all give
abbrev pub invariant-loop-spelled : goal.invariant-loop-spelled
invariant-loop-spelled l = listed (summed_index l.names) l.list ≡ behind l.ids.items (listed (summed_index l.names) (drop l.spelled-index l.list))
