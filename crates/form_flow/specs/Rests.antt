-- What is left of a term while the parts of a statement take from it.
use Rattle.std.specs.Prelude.{◌≡◌, ◌+◌, ℕ, List, [], ◌∷◌, map, Option, Some, None, slice_index_or}
use Rattle.form_expand.specs.Expanding.{list_of_sum}
use Rattle.form_expand.specs.Listing.{Listing}
use Rattle.form_expand.specs.Meanings.{Meanings, no_meanings}
use Rattle.form_expand.specs.Parts.{part_list}
use Rattle.form_expand.specs.Runs.{lists_of}
use Rattle.form_rewrite.specs.declared.taken.Cut.{Cut}
use Rattle.form_rewrite.specs.declared.taken.Origin.{Origin}
use Rattle.form_rewrite.specs.declared.taken.Origin.TheVariants.{Given, TakenBy}
use Rattle.form_tree.specs.Tree.{Sum}
use Rattle.form_flow.specs.declared.between.Inserted.{Inserted}
use Rattle.form_flow.specs.declared.rest.Remaining.{Remaining}
use Rattle.form_flow.specs.Rewriting.{Rest, no_list}

-- a place at which the word is cut, and with the list that is put in there
abbrev pub place_of : Inserted → ℕ
place_of i = i.place

abbrev pub cut_list : ℕ → Inserted → ℕ × Listing
cut_list max i = (i.place, part_list max i.list)

-- the numbers of the cuts that were there before
abbrev pub and_given : Origin → List ℕ → List ℕ
and_given (Given n) ns = n ∷ ns
and_given (TakenBy n) ns = ns

abbrev pub numbers_given : List Cut → List ℕ
numbers_given [] = []
numbers_given (c ∷ cs) = and_given c.origin (numbers_given cs)

-- a cut that was there before comes next, where so many came
abbrev pub ComesAt : ℕ → Origin → Type 0
ComesAt taken (Given n) = n ≡ taken
ComesAt taken (TakenBy n) = Unit {0}

abbrev pub taken_after : Origin → ℕ → ℕ
taken_after (Given n) taken = taken + 1
taken_after (TakenBy n) taken = taken

-- the place of the first cut
abbrev pub first_cut : List Inserted → Option ℕ
first_cut [] = None
first_cut (i ∷ is) = Some i.place

-- what is kept of it, within so many terms
abbrev pub rest_in : Remaining → Rest
rest_in r = record { left = r.left; cuts = map (cut_list r.limit) r.between.items; behind = lists_of r.limit r.behind.items; has_matched = r.has_matched }

-- what names stand for, where they stand for something
abbrev pub names_in : Option Meanings → Meanings
names_in None = no_meanings
names_in (Some names) = names

-- what is put in at a cut: what was before, or the right side by what names stand for in the match that took the stretch
abbrev pub put_in_named : ℕ → Sum → List (ℕ × Listing) → List (Option Meanings) → Origin → Listing
put_in_named max right before names (Given n) = (slice_index_or before n no_list).1
put_in_named max right before names (TakenBy n) = list_of_sum max (names_in (slice_index_or names n None)) right
