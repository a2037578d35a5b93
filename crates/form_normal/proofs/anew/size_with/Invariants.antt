use Rattle.std.proofs.Common.{◌≡◌, ◌+◌, ◌-◌, ◌^◌, ◌≤◌, map, min, length}
use Rattle.std.specs.Prelude.{sum}
use Rattle.form_term.specs.Term.{size_of_call}
use Rattle.form_normal.proofs.anew.size_with.Given as goal

-- what was counted and what is left come to all
abbrev pub invariant-loop-call : goal.invariant-loop-call
invariant-loop-call l = l.count ≤ (2 ^ 64 - 1) × min (l.count + sum (map size_of_call l.rest)) (2 ^ 64 - 1) ≡ min (l.fn.size + sum (map size_of_call l.fn.calls)) (2 ^ 64 - 1)

abbrev pub decreases-loop-call : goal.decreases-loop-call
decreases-loop-call l = length l.rest
