-- What is left of a list that is there as a whole.
use Rattle.std.specs.Prelude.{◌≡◌, ℕ, ◌+◌, ◌-◌, ◌<◌, length, List, None}
use Rattle.form_term.specs.declared.monomial.Monomial.{Monomial}
use Rattle.form_expand.specs.declared.walk.Walk.{Walk}
use Rattle.form_expand.specs.declared.whole.Whole.{Whole}
use Rattle.form_expand.specs.Kept.{kept_terms, end_of, listing, rest_at}
use Rattle.form_expand.specs.Listing.{Listing, limited}

abbrev pub walk_whole : ℕ → Walk → Listing
walk_whole max w = limited max (listing w.whole)

abbrev pub walk_left : ℕ → Walk → Listing
walk_left max w = limited (max - w.place) (rest_at w.place (listing w.whole))

-- the same of a list that has all its terms
abbrev pub all_left : Walk → Listing
all_left w = rest_at w.place (listing w.whole)

-- one term is left of a list, which isn't refused before or behind it
pub record HasOne (max : ℕ) (w : Walk) : Type 0 where
  pub done : end_of w.whole.end ≡ None
  pub last : length (kept_terms w.whole.kept) ≡ w.place + 1
  pub within : w.place < max

-- a list has one term and isn't refused behind it, and may have one
pub record IsAlone (max : ℕ) (w : Whole) : Type 0 where
  pub done : end_of w.end ≡ None
  pub alone : length (kept_terms w.kept) ≡ 1
  pub some : 0 < max

-- the list of these terms, which is done behind them
abbrev pub all_of : List Monomial → Listing
all_of terms = record { terms = terms; end = None }
