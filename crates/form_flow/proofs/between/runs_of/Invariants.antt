use Rattle.std.proofs.Common.{◌≡◌, ℕ, ◌++◌, map}
use Rattle.std.specs.Vec.Iter.{into_iter_items}
use Rattle.form_expand.specs.Parts.{part_list}
use Rattle.form_expand.specs.Runs.{lists_of}
use Rattle.form_flow.proofs.between.runs_of.Given as goal

abbrev pub invariant-loop-list : goal.invariant-loop-list
invariant-loop-list l = (max : ℕ) → lists_of max l.runs.items ++ map (part_list max) (into_iter_items l.list-iterator) ≡ map (part_list max) l.fn.lists.items
