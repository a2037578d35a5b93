-- The checked program, over Ids.
use Rattle.std.specs.Prelude.{List}
use Rattle.form_base.specs.declared.block.Action.{Action}
use Rattle.form_base.specs.declared.block.Branch.{Branch}
use Rattle.form_tree.specs.Conditions.{Parts}
use Rattle.form_check.specs.declared.checked.CheckedLeaf.{CheckedLeaf}
use Rattle.form_check.specs.declared.checked.Module as checked
use Rattle.form_check.specs.declared.checked.Picked.{Picked}
use Rattle.form_check.specs.declared.program.Program as whole

-- a statement that is carried out on terms
abbrev pub CheckedStatement : Type 0
CheckedStatement = Action CheckedLeaf Parts (List Picked)

-- a branch of an `if`
abbrev pub CheckedBranch : Type 0
CheckedBranch = Branch Parts (List CheckedStatement)

-- its statements that stand in no block, and those that are carried out on terms
abbrev pub Module : Type 0
Module = checked.Module

-- the names in the order of declaration, and the modules in the order of the text
abbrev pub Program : Type 0
Program = whole.Program
