use Rattle.std.proofs.Common.{◌≡◌, drop}
use Rattle.form_check.specs.Carried.{weighted}
use Rattle.form_right_side.specs.Refusal.{listed}
use Rattle.form_right_side.proofs.Loops.{behind}
use Rattle.form_check.proofs.carried.weights.Given as goal

-- what was read and what is left give what all give
abbrev pub invariant-loop-one : goal.invariant-loop-one
invariant-loop-one l = listed (weighted l.names) l.written ≡ behind l.list.items (listed (weighted l.names) (drop l.one-index l.written))
