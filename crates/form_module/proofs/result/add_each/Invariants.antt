use Rattle.std.specs.Vec.Iter.{into_iter_items}
use Rattle.form_collect.specs.Collector.{IsCollectionOf}
use Rattle.form_flow.specs.Statements.{outputs}
use Rattle.form_module.specs.Module.{through}
use Rattle.form_module.proofs.Taken.{IsTaken, all_of}
use Rattle.form_module.proofs.result.add_each.Given as goal

abbrev pub invariant-loop-item : goal.invariant-loop-item
invariant-loop-item l =
    IsTaken IsCollectionOf (through (outputs l.statements) (all_of l.fn.items.items)) (through (outputs l.statements) (all_of (into_iter_items l.item-iterator))) l.fn.collector l.collector
