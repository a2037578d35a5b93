-- A term, and a list behind it.
use Rattle.std.specs.Prelude.{◌≡◌}
use Rattle.form_expand.specs.declared.row.Paired.{Paired}
use Rattle.form_expand.specs.declared.row.Paired.TheVariants as paired
use Rattle.form_expand.specs.Listing.{Listing, single}

-- This list: one term, or the row of what it is made of.
abbrev pub IsPaired : Listing → Paired → Type 0
IsPaired l (paired.One m) = l ≡ single m
IsPaired l (paired.Row row) = row.value ≡ l
