-- The factors of a product while they are read.
use Rattle.std.specs.Prelude.{◌≡◌, ◌≤◌, ◌⊎◌, ℕ, List, [], ◌∷◌, ◌++◌, Option, Some, None, Result, Ok, Err, length, map, option_to_list}
use Rattle.form_term.specs.declared.monomial.Monomial.{Monomial}
use Rattle.form_expand.specs.declared.error.ExpandError.{ExpandError}
use Rattle.form_expand.specs.declared.error.ExpandError.TheVariants.{Refused, Memory}
use Rattle.form_expand.specs.declared.factors.Factors.{Factors}
use Rattle.form_expand.specs.declared.whole.Whole.{Whole}
use Rattle.form_expand.specs.Left.{row}
use Rattle.form_expand.specs.Listing.{Listing, nothing, single, refusal}
use Rattle.form_expand.specs.Lists.{list_whole}
use Rattle.form_expand.specs.Walks.{IsAlone}

-- the front, where there is one, and the lists behind it
abbrev pub factor_lists : ℕ → Factors → List Listing
factor_lists max f = map single (option_to_list f.front) ++ map (list_whole max) f.lists.items

-- lists make the same row as others, whatever stands behind them
abbrev pub IsSameRow : ℕ → List Listing → List Listing → Type 0
IsSameRow max old new = (more : List Listing) → row max (old ++ more) ≡ row max (new ++ more)

-- lists are what was made: its term, or that it is 0 or refused
abbrev pub AreMade : ℕ → Result (Option Monomial) ExpandError → List Listing → Type 0
AreMade max (Ok (Some m)) lists = IsSameRow max (single m ∷ []) lists
AreMade max (Ok None) lists = IsSameRow max (nothing ∷ []) lists
AreMade max (Err (Refused cause)) lists = IsSameRow max (refusal cause ∷ []) lists
AreMade max (Err Memory) lists = ⊥

-- a list has one term at most, and isn't refused behind it
abbrev pub IsOneAtMost : Listing → Type 0
IsOneAtMost l = (length l.terms ≤ 1) × ((l.terms ≡ []) ⊎ (l.end ≡ None))

-- a list to a power is one term at most without going through it: it is the power 0, or one of a list of one term
abbrev pub IsShortPower : ℕ → Whole → ℕ → Type 0
IsShortPower max w power = (power ≡ 0) ⊎ IsAlone max w
