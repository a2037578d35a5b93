-- What was counted and what is left is the whole.
use Rattle.std.proofs.Common.{◌≡◌, ◌+◌, drop, map}
use Rattle.std.specs.Prelude.{sum}
use Rattle.form_term.specs.Term.{size_of_call}
use Rattle.form_term.proofs.others.size_of_calls.Given as goal

abbrev pub invariant-loop-call : goal.invariant-loop-call
invariant-loop-call l = l.size + sum (map size_of_call (drop l.call-index l.calls)) ≡ sum (map size_of_call l.calls)
