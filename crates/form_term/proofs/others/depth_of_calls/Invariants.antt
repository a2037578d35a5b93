-- What was found so far and what is left give the depth.
use Rattle.std.proofs.Common.{◌≡◌, drop}
use Rattle.std.specs.Prelude.{max}
use Rattle.form_term.specs.Term.{depth_of_calls}
use Rattle.form_term.proofs.others.depth_of_calls.Given as goal

abbrev pub invariant-loop-call : goal.invariant-loop-call
invariant-loop-call l = max l.depth (depth_of_calls (drop l.call-index l.calls)) ≡ depth_of_calls l.calls
