use Rattle.std.proofs.Common.{◌≡◌, map, take}
use Rattle.form_flow.specs.Making.{ready_part}
use Rattle.form_flow.proofs.compiling.group_of.Given as goal

abbrev pub invariant-loop-rewriting : goal.invariant-loop-rewriting
invariant-loop-rewriting l = l.parts.items ≡ map (ready_part l.limit) (take l.rewriting-index l.rewritings)
