use Rattle.std.proofs.Common.{length}
use Rattle.form_collect.specs.Collector.{IsCollectionOf}
use Rattle.form_flow.specs.Left.{outputs_left}
use Rattle.form_module.proofs.Taken.{IsTaken}
use Rattle.form_module.proofs.result.add_all.Given as goal

abbrev pub invariant-loop-item : goal.invariant-loop-item
invariant-loop-item l = IsTaken IsCollectionOf (outputs_left l.fn.outputs) (outputs_left l.outputs) l.fn.collector l.collector

abbrev pub decreases-loop-item : goal.decreases-loop-item
decreases-loop-item l = length ((outputs_left l.outputs).terms)
