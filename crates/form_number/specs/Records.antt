-- What a written number is.
use Rattle.std.specs.Prelude.{ℕ}
use Rattle.form_base.specs.declared.spot.Spot.{Spot}

-- a number, and where it stands
pub record WrittenNumber : Type 0 where
  pub value : ℕ
  pub spot : Spot
