use Rattle.std.proofs.Common.{length}
use Rattle.form_flow.specs.Statements.{outputs}
use Rattle.form_gathered.specs.Joined.{HaveSums}
use Rattle.form_module.specs.Module.{through}
use Rattle.form_module.proofs.Taken.{IsTaken, all_of}
use Rattle.form_module.proofs.joined.add_parts.Given as goal

abbrev pub invariant-loop-rest : goal.invariant-loop-rest
invariant-loop-rest l = IsTaken HaveSums (through (outputs l.statements) (all_of l.fn.items)) (through (outputs l.statements) (all_of l.rest)) l.fn.table l.table

abbrev pub decreases-loop-rest : goal.decreases-loop-rest
decreases-loop-rest l = length l.rest
