use Rattle.std.proofs.Common.{◌≡◌, map, fold, filter}
use Rattle.std.specs.Vec.Iter.{into_iter_items}
use Rattle.form_module.specs.Kept.{as_stored, is_kept}
use Rattle.form_module.specs.Module.{with_expression}
use Rattle.form_module.proofs.module.keep.Given as goal

-- to put what is left and is kept makes what all make
abbrev pub invariant-loop-one : goal.invariant-loop-one
invariant-loop-one l =
    fold with_expression (map as_stored l.after.entries) (filter (is_kept l.changed) (into_iter_items l.one-iterator))
    ≡ fold with_expression (map as_stored l.fn.after.entries) (filter (is_kept l.fn.changed) l.fn.standing.items)
