use Rattle.std.proofs.Common.{length}
use Rattle.form_flow.specs.Statements.{outputs}
use Rattle.form_gathered.specs.Joined.{HaveSums}
use Rattle.form_module.specs.Inputs.{inputs_left}
use Rattle.form_module.specs.Module.{through}
use Rattle.form_module.proofs.Taken.{IsTaken}
use Rattle.form_module.proofs.joined.add_inputs.Given as goal

abbrev pub invariant-batches : goal.invariant-batches
invariant-batches l = IsTaken HaveSums (through (outputs l.statements) (inputs_left l.fn.inputs)) (through (outputs l.statements) (inputs_left l.inputs)) l.fn.table l.table

abbrev pub decreases-batches : goal.decreases-batches
decreases-batches l = length ((inputs_left l.inputs).terms)
