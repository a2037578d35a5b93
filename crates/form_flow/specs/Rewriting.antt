-- What an `id` with its `also`s makes of a term.
use Rattle.std.specs.Prelude.{ℕ, ◌-◌, Bool, true, false, if◌then◌else◌, pos, List, [], ◌∷◌, ◌++◌, map, flat_map, fold, take, drop, replicate, Option, Some, None, slice_index_or}
use Rattle.std.specs.List.{list_any}
use Rattle.form_frac.specs.Fraction.{whole}
use Rattle.form_term.specs.declared.monomial.Monomial.{Monomial}
use Rattle.form_term.specs.Term.{Term, Call, of_others}
use Rattle.form_term.specs.Term as terms
use Rattle.form_tree.specs.Tree as tree
use Rattle.form_bindings.specs.Values.{Binding}
use Rattle.form_rewrite.specs.declared.taken.Cut.{Cut}
use Rattle.form_rewrite.specs.declared.taken.Origin.{Origin}
use Rattle.form_rewrite.specs.declared.taken.Origin.TheVariants.{Given, TakenBy}
use Rattle.form_rewrite.specs.declared.taken.Taken.{Taken}
use Rattle.form_rewrite.specs.Taking.{take_out}
use Rattle.form_expand.specs.Listing.{Listing, single}
use Rattle.form_expand.specs.Left.{row}
use Rattle.form_expand.specs.Meanings.{bound_to}
use Rattle.form_expand.specs.Expanding.{list_of_sum}
use Rattle.form_flow.specs.Ready.{Part}

-- what is left of a term, the places at which its word was cut with what is put in there, and what is put in behind all
pub record Rest : Type 0 where
  pub left : Term
  pub cuts : List (ℕ × Listing)
  pub behind : List Listing
  pub has_matched : Bool

abbrev pub untouched : Term → Rest
untouched t = record { left = t; cuts = []; behind = []; has_matched = false }

-- the right side with the bindings of a match
abbrev pub right_with : ℕ → tree.Sum → List Binding → Listing
right_with max right bs = list_of_sum max (bound_to bs) right

abbrev pub no_list : ℕ × Listing
no_list = (0, record { terms = []; end = None })

-- what is put in at a cut: what was before, or the right side of the match that took the stretch
abbrev pub put_in_by : ℕ → tree.Sum → List (ℕ × Listing) → List (List Binding) → Origin → Listing
put_in_by max right before matches (Given n) = (slice_index_or before n no_list).1
put_in_by max right before matches (TakenBy n) = right_with max right (slice_index_or matches n [])

abbrev pub is_by_match : Origin → Bool
is_by_match (Given n) = false
is_by_match (TakenBy n) = true

abbrev pub any_match : List Cut → Bool
any_match cs = list_any (λ c. is_by_match c.origin) cs

-- a right side stands at its cut, where its match took a stretch; else behind all that is left, as often as it is taken
abbrev pub behind_by : ℕ → tree.Sum → Taken → List Listing
behind_by max right x = if any_match x.cuts then [] else flat_map (λ bs. replicate x.times (right_with max right bs)) x.matches

abbrev pub and_taken : ℕ → tree.Sum → Rest → Option Taken → Rest
and_taken max right r None = r
and_taken max right r (Some x) = record {
  left = x.left;
  cuts = map (λ c. (c.place, put_in_by max right r.cuts x.matches c.origin)) x.cuts;
  behind = r.behind ++ behind_by max right x;
  has_matched = true;
}

-- a part takes out of what those before it left
abbrev pub and_part : ℕ → Rest → Part → Rest
and_part max r p = and_taken max p.right r (take_out p.fixed p.pattern p.option r.left (map (λ c. c.0) r.cuts))

-- a stretch of the word as a factor, where there is one
abbrev pub word_factor : List Call → List Listing
word_factor [] = []
word_factor (c ∷ cs) = single (record { coefficient = whole (pos 1); term = of_others (record terms.nothing { word = c ∷ cs }) }) ∷ []

-- from a cut on: what is put in there, the word up to the next cut, and so on
abbrev pub from_cuts : List Call → ℕ → List (ℕ × Listing) → List Listing
from_cuts w start [] = word_factor (drop start w)
from_cuts w start (c ∷ cs) = word_factor (take (c.0 - start) (drop start w)) ++ c.1 ∷ from_cuts w c.0 cs

-- a term, its word up to the first cut alone
abbrev pub to_first_cut : Term → List (ℕ × Listing) → Term
to_first_cut t [] = t
to_first_cut t (c ∷ cs) = record { symbols = t.symbols; others = record t.others { word = take c.0 t.others.word } }

-- what follows the first cut
abbrev pub behind_first : List Call → List (ℕ × Listing) → List Listing
behind_first w [] = []
behind_first w (c ∷ cs) = c.1 ∷ from_cuts w c.0 cs

abbrev pub list_of_rest : ℕ → Monomial → Rest → Listing
list_of_rest max m r =
    row max (single (record { coefficient = m.coefficient; term = to_first_cut r.left r.cuts }) ∷ behind_first r.left.others.word r.cuts ++ r.behind)

abbrev pub rest_of : ℕ → List Part → Term → Rest
rest_of max parts t = fold (and_part max) (untouched t) parts

-- What an `id` with its `also`s makes of a term, none where none of them matched: what is left, up to the first cut; the
-- right side that is put in there; the next part of the word; and so on; then the other right sides; all paired from the
-- left. Nothing that is put in is searched.
unfoldable pub rewritten : ℕ → List Part → Monomial → Option Listing
rewritten max parts m =
    let r = rest_of max parts m.term in if r.has_matched then Some (list_of_rest max m r) else None
