use Rattle.std.proofs.Common.{◌≡◌, drop}
use Rattle.form_check.specs.Checking.{expression}
use Rattle.form_right_side.specs.Refusal.{listed}
use Rattle.form_right_side.proofs.Loops.{behind}
use Rattle.form_check.proofs.naming.expressions_of.Given as goal

-- what was read and what is left give what all names give
abbrev pub invariant-loop-spelled : goal.invariant-loop-spelled
invariant-loop-spelled l =
    listed (expression l.names) l.list ≡ behind l.ids.items (listed (expression l.names) (drop l.spelled-index l.list))
