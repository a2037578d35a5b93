-- What was put and what is left are the whole.
use Rattle.std.proofs.Common.{◌≡◌, ◌++◌, drop}
use Rattle.std.specs.Prelude.{flat_map}
use Rattle.form_flow.specs.Indices.{indices_of_delta}
use Rattle.form_flow.proofs.indices.put_deltas.Given as goal

abbrev pub invariant-loop-delta : goal.invariant-loop-delta
invariant-loop-delta l = l.list.items ++ flat_map indices_of_delta (drop l.delta-index l.deltas) ≡ l.initial.list.items ++ flat_map indices_of_delta l.deltas
