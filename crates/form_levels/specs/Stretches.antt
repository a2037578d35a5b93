-- Stretches of a word behind the places at which it is cut.
use Rattle.std.specs.Prelude.{ℕ, ◌-◌, List, [], ◌∷◌, ◌++◌, length, take, drop, Option, Some, None}
use Rattle.form_term.specs.declared.monomial.Monomial.{Monomial}
use Rattle.form_term.specs.Term.{Call}
use Rattle.form_expand.specs.Listing.{Listing, single}
use Rattle.form_rewrite.specs.declared.taken.Cut.{Cut}
use Rattle.form_rewrite.specs.declared.taken.Origin.{Origin}
use Rattle.form_flow.specs.Rewriting.{word_factor}
use Rattle.form_levels.specs.declared.rewriting.Stretch.{Stretch}

-- the place of the first cut
abbrev pub first_cut : List Cut → Option ℕ
first_cut [] = None
first_cut (c ∷ cs) = Some c.place

-- where a stretch ends before these cuts
abbrev pub end_before : List Call → List Cut → ℕ
end_before w [] = length w
end_before w (c ∷ cs) = c.place

-- from a cut up to the next one
abbrev pub stretch_at : List Call → Cut → List Cut → List Call
stretch_at w c cs = take (end_before w cs - c.place) (drop c.place w)

-- each with what cut the word in front of it
abbrev pub stretches_at : List Call → List Cut → List (Origin × List Listing)
stretches_at w [] = []
stretches_at w (c ∷ cs) = (c.origin, word_factor (stretch_at w c cs)) ∷ stretches_at w cs

-- a term as a list, where there is one
abbrev pub list_if : Option Monomial → List Listing
list_if None = []
list_if (Some m) = single m ∷ []

abbrev pub with_origin : Stretch → Origin × List Listing
with_origin s = (s.origin, list_if s.item)

-- before each of them what is put in there
abbrev pub with_each : (Origin → Listing) → List (Origin × List Listing) → List Listing
with_each put [] = []
with_each put (s ∷ ss) = put s.0 ∷ s.1 ++ with_each put ss
