use Rattle.std.proofs.Common.{◌≡◌, drop}
use Rattle.form_check.specs.Carried.{argument_number}
use Rattle.form_right_side.specs.Refusal.{listed}
use Rattle.form_right_side.proofs.Loops.{behind}
use Rattle.form_check.proofs.carried.argument_numbers.Given as goal

-- what was read and what is left give what all give
abbrev pub invariant-loop-number : goal.invariant-loop-number
invariant-loop-number l = listed (argument_number) l.written ≡ behind l.numbers.items (listed (argument_number) (drop l.number-index l.written))
