-- A list that is made anew each time, as a list of a product.
use Rattle.std.specs.Prelude.{ℕ}
use Rattle.form_expand.specs.Listing.{Listing}

-- The whole list, what is left of it, and how deep lists that are being made stand within one another in it.
pub record Inner : Type 0 where
  pub whole : Listing
  pub left : Listing
  pub depth : ℕ
