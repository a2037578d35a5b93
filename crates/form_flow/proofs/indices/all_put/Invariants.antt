use Rattle.std.proofs.Common.{◌≡◌, map, take}
use Rattle.form_flow.specs.Indices.{put}
use Rattle.form_flow.proofs.indices.all_put.Given as goal

abbrev pub invariant-loop-index : goal.invariant-loop-index
invariant-loop-index l = l.list.items ≡ map (put l.renaming.from l.renaming.to) (take l.index-index l.there)
