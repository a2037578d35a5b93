use Rattle.std.proofs.Common.{◌≡◌, ◌++◌, replicate}
use Rattle.form_expand.specs.Expanding.{list_of_sum}
use Rattle.form_expand.specs.Runs.{lists_of}
use Rattle.form_flow.specs.Rests.{names_in}
use Rattle.form_flow.proofs.rest.put_copies.Given as goal

abbrev pub invariant-loop-made : goal.invariant-loop-made
invariant-loop-made l =
    lists_of l.limit l.behind.items ≡ lists_of l.limit l.fn.behind.items ++ replicate l._made (list_of_sum l.limit (names_in l.names) l.right)
