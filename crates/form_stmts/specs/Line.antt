-- The lines of a program.
use Rattle.std.specs.Prelude.{ℕ, List}
use Rattle.form_base.specs.declared.spot.Spot.{Spot}

-- a line of one of the texts of a program: where it stands, and its bytes
pub record PlacedLine : Type 0 where
  pub spot : Spot
  pub text : List ℕ
