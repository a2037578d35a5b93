use Rattle.std.proofs.Common.{◌≡◌, fold}
use Rattle.std.specs.Vec.Iter.{into_iter_items}
use Rattle.form_expand.specs.Runs.{lists_of}
use Rattle.form_flow.proofs.Behind.{and_behind}
use Rattle.form_flow.proofs.rest.put_all.Given as goal

abbrev pub invariant-loop-bindings : goal.invariant-loop-bindings
invariant-loop-bindings l =
    fold (and_behind l.limit l.right l.times) (lists_of l.limit l.behind.items) (into_iter_items l.bindings-iterator)
    ≡ fold (and_behind l.limit l.right l.times) (lists_of l.limit l.fn.behind.items) l.fn.matches.items
