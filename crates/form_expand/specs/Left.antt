-- Lists that are paired from the left, and what is left of one while its terms are taken one by one.
use Rattle.std.specs.Prelude.{ℕ, ◌-◌, List, [], ◌∷◌, Option, Some, None, Result, Ok}
use Rattle.form_term.specs.declared.monomial.Monomial.{Monomial}
use Rattle.form_normal.specs.Product.{product_of}
use Rattle.form_base.specs.declared.cause.Cause.{Cause}
use Rattle.form_expand.specs.Listing.{Listing, nothing, limited, followed, times, pairs}

-- A list of the row that terms are being taken from: how many terms the front of the row up to it has had, the list
-- itself, and what is left of the pairing with the term of the front before it.
pub record Level : Type 0 where
  pub count : ℕ
  pub list : Listing
  pub opened : Listing

-- a list of the row that no terms are being taken from
pub record Waiting : Type 0 where
  pub count : ℕ
  pub list : Listing

-- what is left of the front up to a level, where this is left of the front before it
unfoldable pub left_at : ℕ → Level → Listing → Listing
left_at max s before = limited (max - s.count) (followed s.opened (pairs before s.list))

unfoldable pub left_past : ℕ → Waiting → Listing → Listing
left_past max w before = limited (max - w.count) (pairs before w.list)

-- a term, or none at the front of a row, times a term
abbrev pub product_by : Option Monomial → Monomial → Result (Option Monomial) Cause
product_by None r = Ok (Some r)
product_by (Some m) r = product_of m r

abbrev pub times_by : Option Monomial → Listing → Listing
times_by None l = l
times_by (Some m) l = times m l

-- Lists paired one after the other from the left, where this is the front before them; each front is a list, and limited.
unfoldable pub row_behind : ℕ → Listing → List Listing → Listing
row_behind max front [] = front
row_behind max front (l ∷ lists) = row_behind max (limited max (pairs front l)) lists

-- a row of lists from its first on; of none there are no terms
unfoldable pub row : ℕ → List Listing → Listing
row max [] = nothing
row max (l ∷ lists) = row_behind max (limited max l) lists
