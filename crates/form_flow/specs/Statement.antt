-- The statements of a module made ready.
use Rattle.std.specs.Prelude.{ℕ, List}
use Rattle.form_base.specs.declared.block.Action.{Action}
use Rattle.form_base.specs.declared.block.Branch.{Branch}
use Rattle.form_check.specs.declared.checked.Picked.{Picked}
use Rattle.form_flow.specs.declared.compiled.ReadyLeaf.{ReadyLeaf}
use Rattle.form_flow.specs.Ready.{Choice}

-- a statement that is carried out on terms
abbrev pub Statement : Type 0
Statement = Action ReadyLeaf Choice (List Picked)

-- a branch of an `if`
abbrev pub Chosen : Type 0
Chosen = Branch Choice (List Statement)

-- what statements are carried out within: the most terms of a list, and the most turns of a `repeat`
pub record Limits : Type 0 where
  pub terms : ℕ
  pub turns : ℕ

-- a module's statements within limits
pub record Compiled : Type 0 where
  pub limits : Limits
  pub statements : List Statement
