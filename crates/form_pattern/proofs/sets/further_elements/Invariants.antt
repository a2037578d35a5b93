use Rattle.std.proofs.Common.{◌≡◌, drop}
use Rattle.form_right_side.specs.Refusal.{listed}
use Rattle.form_pattern.specs.Sets.{further_element}
use Rattle.form_right_side.proofs.Loops.{behind}
use Rattle.form_pattern.proofs.sets.further_elements.Given as goal

-- what was read and what is left give what all names give
abbrev pub invariant-loop-spelled : goal.invariant-loop-spelled
invariant-loop-spelled l =
    behind l.fn.ids.items (listed (further_element l.names l.kind) l.list) ≡ behind l.ids.items (listed (further_element l.names l.kind) (drop l.spelled-index l.list))
