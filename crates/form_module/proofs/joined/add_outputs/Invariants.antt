use Rattle.std.proofs.Common.{length}
use Rattle.form_flow.specs.Left.{outputs_left}
use Rattle.form_gathered.specs.Joined.{HaveSums}
use Rattle.form_module.proofs.Taken.{IsTaken}
use Rattle.form_module.proofs.joined.add_outputs.Given as goal

abbrev pub invariant-loop-item : goal.invariant-loop-item
invariant-loop-item l = IsTaken HaveSums (outputs_left l.fn.outputs) (outputs_left l.outputs) l.fn.table l.table

abbrev pub decreases-loop-item : goal.decreases-loop-item
decreases-loop-item l = length ((outputs_left l.outputs).terms)
