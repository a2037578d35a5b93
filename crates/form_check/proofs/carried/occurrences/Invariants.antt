use Rattle.std.proofs.Common.{◌≡◌, drop}
use Rattle.form_check.specs.Carried.{occurring}
use Rattle.form_right_side.specs.Refusal.{listed}
use Rattle.form_right_side.proofs.Loops.{behind}
use Rattle.form_check.proofs.carried.occurrences.Given as goal

-- what was read and what is left give what all give
abbrev pub invariant-loop-spelled : goal.invariant-loop-spelled
invariant-loop-spelled l = listed (occurring l.names) l.list ≡ behind l.ids.items (listed (occurring l.names) (drop l.spelled-index l.list))
