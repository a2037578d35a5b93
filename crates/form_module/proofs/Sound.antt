-- Right sides and patterns of a checked module are those of trees.
use Rattle.std.proofs.Common.{ℕ, Bool, List}
use Rattle.std.proofs.lemmas.List.Elements.{All-weaker}
use Rattle.form_names.specs.Names.{Entry}
use Rattle.form_check.specs.declared.checked.Checked.{Checked}
use Rattle.form_check.specs.declared.checked.Checked.TheVariants.{Drop, Skip, Local, Print}
use Rattle.form_check.specs.Program.{Module}
use Rattle.form_check.specs.Sound.{IsActionSound, IsModuleSound, IsStatementSound}
use Rattle.form_check.specs.Standing.{stands}
use Rattle.form_flow.specs.Making.{HasAllTrees}
use Rattle.form_flow.proofs.Checked.{has_all_trees}
use Rattle.form_module.specs.Module.{HasRightSide, HaveTrees}

has_right_side : (names : List Entry) (s : ℕ → Bool) (statement : Checked) → IsStatementSound names s statement → HasRightSide statement
has_right_side names s (Drop which) sound = tt
has_right_side names s (Skip which) sound = tt
has_right_side names s (Local id right) sound = (sound.1.tree, sound.1.pieces)
has_right_side names s (Print which) sound = tt

-- a module that was checked has its trees
pub have_trees : (names : List Entry) (earlier : List Module) (m : Module) → IsModuleSound names earlier m → HaveTrees m
have_trees names earlier m sound = record {
  definitions = All-weaker (IsStatementSound names (stands earlier)) HasRightSide (has_right_side names (stands earlier)) m.statements sound.statements;
  actions = All-weaker (IsActionSound names) HasAllTrees (has_all_trees names) m.actions sound.actions;
}
