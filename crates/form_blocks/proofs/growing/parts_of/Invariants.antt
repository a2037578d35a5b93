use Rattle.std.proofs.Common.{◌≡◌}
use Rattle.std.specs.Prelude.{fold}
use Rattle.std.specs.Vec.Iter.{into_iter_items}
use Rattle.form_blocks.specs.Growing.{grown_by, nothing_grown}
use Rattle.form_blocks.proofs.growing.parts_of.Given as goal

abbrev pub invariant-loop-placed : goal.invariant-loop-placed
invariant-loop-placed l = fold grown_by l.growth (into_iter_items l.placed-iterator) ≡ fold grown_by nothing_grown l.fn.statements.items
