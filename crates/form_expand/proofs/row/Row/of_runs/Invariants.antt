use Rattle.std.proofs.Common.{◌∷◌, ◌++◌}
use Rattle.std.specs.Vec.Iter.{into_iter_items}
use Rattle.form_expand.specs.Factors.{IsSameRow, factor_lists}
use Rattle.form_expand.specs.Listing.{single}
use Rattle.form_expand.specs.Runs.{lists_of}
use Rattle.form_expand.proofs.row.Row.of_runs.Given as goal

-- the factors so far, with the runs that are left
abbrev pub invariant-loop-run : goal.invariant-loop-run
invariant-loop-run l =
    IsSameRow l.limit (single l.fn.first ∷ lists_of l.limit l.fn.runs.items) (factor_lists l.limit l.factors ++ lists_of l.limit (into_iter_items l.run-iterator))
