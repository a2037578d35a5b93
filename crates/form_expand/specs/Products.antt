-- What is left of a product.
use Rattle.std.specs.Prelude.{◌≡◌, ℕ, zero, suc, List, [], ◌∷◌, map, Option, Result, OnOk}
use Rattle.form_term.specs.declared.monomial.Monomial.{Monomial}
use Rattle.form_expand.specs.declared.error.ExpandError.{ExpandError}
use Rattle.form_expand.specs.declared.list.List as lists
use Rattle.form_expand.specs.declared.product.Level as levels
use Rattle.form_expand.specs.declared.product.Product.{Product}
use Rattle.form_expand.specs.Left.{Level, Waiting, left_at, left_past, times_by}
use Rattle.form_expand.specs.Listing.{Listing, nothing}
use Rattle.form_expand.specs.Lists.{list_whole, list_left}
use Rattle.form_expand.specs.Moving.{Lessens}
use Rattle.form_expand.specs.Next.{Takes}

-- what is left of the pairing with the term before it
abbrev pub level_left : ℕ → levels.Level → Listing
level_left max l = times_by l.left (list_left max l.list)

-- a level as one that terms are being taken from, and as one that waits
abbrev pub level_of : ℕ → levels.Level → Level
level_of max l = record { count = l.count; list = list_whole max l.list; opened = level_left max l }

abbrev pub level_waiting : ℕ → levels.Level → Waiting
level_waiting max l = record { count = l.count; list = list_whole max l.list }

-- a list that no terms were taken from
abbrev pub list_waiting : ℕ → lists.List → Waiting
list_waiting max l = record { count = 0; list = list_whole max l }

-- what is left past lists that wait, the next one first
unfoldable pub left_behind : ℕ → Listing → List Waiting → Listing
left_behind max front [] = front
left_behind max front (w ∷ waiting) = left_behind max (left_past max w front) waiting

-- What is left of levels of which those up to a place are open, where this is left of the front before them. Past the last
-- one nothing is left.
unfoldable pub levels_behind : ℕ → Listing → List levels.Level → ℕ → Listing
levels_behind max front [] place = nothing
levels_behind max front (l ∷ levels) zero = left_behind max (left_at max (level_of max l) front) (map (level_waiting max) levels)
levels_behind max front (l ∷ levels) (suc place) = levels_behind max (left_at max (level_of max l) front) levels place

abbrev pub product_left : ℕ → Product → Listing
product_left max p = levels_behind max nothing p.levels.items p.place

-- one of these is changed so, the one at a place
abbrev pub ChangesAt : (levels.Level → levels.Level → Type 0) → ℕ → List levels.Level → List levels.Level → Type 0
ChangesAt Changes place [] new = ⊥
ChangesAt Changes place (l ∷ old) [] = ⊥
ChangesAt Changes zero (l ∷ old) (n ∷ new) = Changes l n × (new ≡ old)
ChangesAt Changes (suc place) (l ∷ old) (n ∷ new) = (n ≡ l) × ChangesAt Changes place old new

-- a term was asked for
pub record IsTaken (max : ℕ) (r : Result (Option Monomial) ExpandError) (old new : levels.Level) : Type 0 where
  pub next : Takes max r (level_of max old) (level_of max new)
  pub fewer : Lessens r (level_left max old) (level_left max new)
  pub whole : OnOk r (list_whole max new.list ≡ list_whole max old.list)

-- terms are taken from the first on, for a term of the front before it, or none
abbrev pub IsBegun : Option Monomial → levels.Level → levels.Level → Type 0
IsBegun left old new = (max : ℕ) → level_of max new ≡ record { count = old.count; list = list_whole max old.list; opened = times_by left (list_whole max old.list) }

-- no more terms are taken from the level at a place: the one before it comes next, and nothing is left behind the first
abbrev pub IsClosed : ℕ → List levels.Level → ℕ → List levels.Level → Type 0
IsClosed zero old place new = new ≡ []
IsClosed (suc before) old place new = (place ≡ before) × (new ≡ old)
