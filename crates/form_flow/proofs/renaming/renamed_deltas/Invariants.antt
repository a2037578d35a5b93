use Rattle.std.proofs.Common.{◌≡◌, map, take}
use Rattle.form_flow.specs.Indices.{become, renamed_delta}
use Rattle.form_flow.proofs.renaming.renamed_deltas.Given as goal

abbrev pub invariant-loop-delta : goal.invariant-loop-delta
invariant-loop-delta l = l.list.items ≡ map (renamed_delta (become l.renamings)) (take l.delta-index l.deltas)
