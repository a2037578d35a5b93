use Rattle.std.proofs.Common.{◌≡◌, fold}
use Rattle.std.specs.Vec.Iter.{into_iter_items}
use Rattle.form_flow.proofs.Behind.{and_behind}
use Rattle.form_levels.specs.Groups.{lists_behind}
use Rattle.form_levels.proofs.groups.Rules.put_all.Given as goal

abbrev pub invariant-loop-bindings : goal.invariant-loop-bindings
invariant-loop-bindings l =
    fold (and_behind l.self.limit l.part.right l.times) (lists_behind l.behind.items) (into_iter_items l.bindings-iterator)
    ≡ fold (and_behind l.self.limit l.part.right l.times) (lists_behind l.fn.behind.items) l.fn.matches.items
