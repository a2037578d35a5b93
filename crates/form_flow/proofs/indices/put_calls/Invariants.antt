-- What was put and what is left are the whole.
use Rattle.std.proofs.Common.{◌≡◌, ◌++◌, drop}
use Rattle.std.specs.Prelude.{flat_map}
use Rattle.form_flow.specs.Indices.{indices_of_call}
use Rattle.form_flow.proofs.indices.put_calls.Given as goal

abbrev pub invariant-loop-call : goal.invariant-loop-call
invariant-loop-call l = l.list.items ++ flat_map indices_of_call (drop l.call-index l.calls) ≡ l.initial.list.items ++ flat_map indices_of_call l.calls
