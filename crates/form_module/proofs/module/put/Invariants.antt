use Rattle.std.proofs.Common.{◌≡◌, map, fold}
use Rattle.std.specs.Vec.Iter.{into_iter_items}
use Rattle.form_module.specs.Kept.{as_stored}
use Rattle.form_module.specs.Module.{with_expression}
use Rattle.form_module.proofs.module.put.Given as goal

-- to put what is left among those put makes what all make
abbrev pub invariant-loop-one : goal.invariant-loop-one
invariant-loop-one l =
    fold with_expression (map as_stored l.after.entries) (into_iter_items l.one-iterator)
    ≡ fold with_expression (map as_stored l.fn.after.entries) (l.fn.results.items)
