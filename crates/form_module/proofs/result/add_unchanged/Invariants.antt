use Rattle.std.proofs.Common.{length}
use Rattle.form_collect.specs.Collector.{IsCollectionOf}
use Rattle.form_module.specs.Inputs.{inputs_left}
use Rattle.form_module.proofs.Taken.{IsTaken}
use Rattle.form_module.proofs.result.add_unchanged.Given as goal

abbrev pub invariant-loop-item : goal.invariant-loop-item
invariant-loop-item l = IsTaken IsCollectionOf (inputs_left l.fn.inputs) (inputs_left l.inputs) l.fn.collector l.collector

abbrev pub decreases-loop-item : goal.decreases-loop-item
decreases-loop-item l = length ((inputs_left l.inputs).terms)
