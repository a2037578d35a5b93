use Rattle.std.proofs.Common.{◌≡◌, drop}
use Rattle.form_right_side.specs.Refusal.{listed}
use Rattle.form_pattern.specs.Sets.{number_element}
use Rattle.form_right_side.proofs.Loops.{behind}
use Rattle.form_pattern.proofs.sets.numbers_of.Given as goal

-- what was read and what is left give what all numbers give
abbrev pub invariant-loop-number : goal.invariant-loop-number
invariant-loop-number l = listed number_element l.list ≡ behind l.numbers.items (listed number_element (drop l.number-index l.list))
