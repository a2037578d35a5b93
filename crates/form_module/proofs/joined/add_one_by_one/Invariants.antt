use Rattle.std.proofs.Common.{drop}
use Rattle.form_flow.specs.Statements.{outputs}
use Rattle.form_gathered.specs.Joined.{HaveSums}
use Rattle.form_module.specs.Module.{through}
use Rattle.form_module.proofs.Taken.{IsTaken, all_of}
use Rattle.form_module.proofs.joined.add_one_by_one.Given as goal

abbrev pub invariant-loop-item : goal.invariant-loop-item
invariant-loop-item l =
    IsTaken HaveSums (through (outputs l.statements) (all_of l.items)) (through (outputs l.statements) (all_of (drop l.item-index l.items))) l.fn.table l.table
