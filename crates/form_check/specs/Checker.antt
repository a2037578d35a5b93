-- What a checker knows.
use Rattle.std.specs.Prelude.{◌≡◌, ◌≤◌, ℕ, List, Some, Ok, Result, length, take}
use Rattle.form_names.specs.declared.kind.Kind.{Kind}
use Rattle.form_names.specs.declared.kind.Dimension.{Dimension}
use Rattle.form_names.specs.Names.{Entry, kind_at, IsDimension}
use Rattle.form_check.specs.declared.checker.Checker.{Checker}
use Rattle.form_check.specs.Checking.{State, most_names}
use Rattle.form_check.specs.Marks.{AreMarksOf}
use Rattle.form_right_side.specs.Refusal.{Refusal, each}

abbrev pub state_of : Checker → State
state_of checker = record {
  names = checker.names;
  dimension = checker.dimension;
  earlier = checker.modules.items;
  statements = checker.statements.items;
  actions = checker.actions;
  class = checker.class;
}

-- the marks agree with the statements, no more names are declared than may be, and the dimension is one
pub record IsConsistent (checker : Checker) : Type 0 where
  pub marks : AreMarksOf checker.standing checker.modules.items checker.statements.items
  pub names : length checker.names ≤ most_names
  pub dimension : IsDimension checker.names checker.dimension

-- what stands keeps its kind
abbrev pub Keeps : List Entry → List Entry → Type 0
Keeps old new = (id : ℕ) (kind : Kind) → kind_at old id ≡ Some kind → kind_at new id ≡ Some kind

-- what is a dimension stays one
abbrev pub KeepsDimensions : List Entry → List Entry → Type 0
KeepsDimensions old new = (d : Dimension) → IsDimension old d → IsDimension new d

-- the names that a step for each of some first items leaves
pub record AreLeftByFront (X : Type 0) (step : List Entry → X → Result (List Entry) Refusal) (old : List Entry) (items : List X) (new : List Entry) : Type 0 where
  pub count : ℕ
  pub left : each step old (take count items) ≡ Ok new
