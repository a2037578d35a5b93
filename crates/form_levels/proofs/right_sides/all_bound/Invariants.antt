use Rattle.std.proofs.Common.{◌≡◌, ◌++◌, map}
use Rattle.std.specs.Vec.Iter.{into_iter_items}
use Rattle.form_expand.specs.Meanings.{bound_to}
use Rattle.form_flow.specs.Rests.{names_in}
use Rattle.form_levels.proofs.right_sides.all_bound.Given as goal

abbrev pub invariant-loop-bindings : goal.invariant-loop-bindings
invariant-loop-bindings l = map names_in l.names.items ++ map bound_to (into_iter_items l.bindings-iterator) ≡ map bound_to l.fn.matches.items
