-- What an `id` takes out of a term, by its option.
use Rattle.std.specs.Prelude.{ℕ, zero, suc, ◌+◌, ◌-◌, ◌/◌, ◌==◌, min, nat_lt, nat_abs, ℤ, pos, ◌*ℤ◌, Bool, true, false, if◌then◌else◌, List, [], ◌∷◌, ◌++◌, map, take, drop, fold, sum, length, Option, Some, None, option_map, slice_get}
use Rattle.std.specs.List.{list_all, list_any, enumerate_from, prefix_len}
use Rattle.form_base.specs.declared.taking.Taking.{Taking}
use Rattle.form_base.specs.declared.taking.Taking.TheVariants.{Once, Only, Multi, Many}
use Rattle.form_term.specs.declared.piece.Piece.{Piece}
use Rattle.form_term.specs.declared.power.DotPower.{DotPower}
use Rattle.form_term.specs.Term.{Term, exponent_of}
use Rattle.form_tree.specs.declared.pattern.PatternPiece.{PatternPiece}
use Rattle.form_tree.specs.Pattern.{Factors, pieces_of_factors}
use Rattle.form_match.specs.declared.uses.Use.{Use}
use Rattle.form_match.specs.declared.uses.Use.TheVariants as uses
use Rattle.form_bindings.specs.Values.{Binding}
use Rattle.form_match.specs.Left.{left_of}
use Rattle.form_match.specs.Matching.{first_of}
use Rattle.form_match.specs.Ready.{is_plain_piece, is_whole_piece}
use Rattle.form_match.specs.declared.matching.Match.{Match}
use Rattle.form_rewrite.specs.declared.taken.Origin.{Origin}
use Rattle.form_rewrite.specs.declared.taken.Origin.TheVariants.{Given, TakenBy}
use Rattle.form_rewrite.specs.declared.taken.Cut.{Cut}
use Rattle.form_rewrite.specs.declared.taken.Taken.{Taken}

-- ---- which option a pattern has

-- without an option: a plain pattern is taken as often as it fits, one with a wildcard for an exponent, in an argument too,
-- once, and any other as long as there is a match
abbrev pub usual : List PatternPiece → Taking
usual ps = if list_all is_plain_piece ps then Multi else if list_any is_whole_piece ps then Once else Many

-- `multi` is for plain patterns
abbrev pub option_by : Option Taking → List PatternPiece → Taking
option_by None ps = usual ps
option_by (Some Multi) ps = usual ps
option_by (Some Once) ps = Once
option_by (Some Only) ps = Only
option_by (Some Many) ps = Many

abbrev pub option_of : Option Taking → Factors → Taking
option_of option pattern = option_by option (pieces_of_factors pattern)

-- ---- what is taken

abbrev pub cut_at : ℕ → Origin → Cut
cut_at place origin = record { place = place; origin = origin }

abbrev pub is_before : ℕ → Cut → Bool
is_before place c = nat_lt c.place place

abbrev pub moved : ℕ → Cut → Cut
moved n c = cut_at (c.place - n) c.origin

-- the cuts behind a stretch move to the front, and one comes in its place
unfoldable pub cut_out : ℕ → ℕ → Origin → List Cut → List Cut
cut_out start n origin cs =
    let k = prefix_len (is_before (start + n)) cs in take k cs ++ cut_at start origin ∷ map (moved n) (drop k cs)

abbrev pub cuts_by_use : Origin → List Cut → Use → List Cut
cuts_by_use origin cs (uses.Stretch start n) = cut_out start n origin cs
cuts_by_use origin cs _ = cs

abbrev pub cuts_by : Origin → List Cut → List Use → List Cut
cuts_by origin cs us = fold (cuts_by_use origin) cs us

-- one match more
abbrev pub and_match : Taken → Match → Taken
and_match x m = record {
  left = left_of x.left m.takes;
  cuts = cuts_by (TakenBy (length x.matches)) x.cuts m.takes;
  matches = x.matches ++ m.bindings ∷ [];
  times = x.times;
}

abbrev pub taken_so_far : Term → List Cut → List (List Binding) → ℕ → Taken
taken_so_far t cuts matches times = record { left = t; cuts = cuts; matches = matches; times = times }

-- before any match
abbrev pub given_cuts : List ℕ → List Cut
given_cuts places = map (λ e. cut_at e.1 (Given e.0)) (enumerate_from 0 places)

abbrev pub untouched : Term → List ℕ → Taken
untouched t places = taken_so_far t (given_cuts places) [] 1

-- a match would remove nothing
abbrev pub is_idle_use : Use → Bool
is_idle_use (uses.Symbol s k) = nat_abs k == 0
is_idle_use (uses.Stretch start n) = n == 0
is_idle_use _ = false

abbrev pub is_idle : Match → Bool
is_idle m = list_all is_idle_use m.takes

-- how often a power fits into an exponent, and a match into a term; one that takes nothing fits once
abbrev pub times_in : ℤ → ℤ → ℕ
times_in e k = nat_abs e / nat_abs k

abbrev pub dot_exponent : Option DotPower → ℤ
dot_exponent None = pos 0
dot_exponent (Some d) = d.exponent

abbrev pub times_at : Term → Use → ℕ
times_at t (uses.Symbol s k) = times_in (exponent_of t s) k
times_at t (uses.Dot m k) = times_in (dot_exponent (slice_get t.others.dots m)) k
times_at t _ = 0

abbrev pub least : ℕ → List ℕ → ℕ
least n [] = n
least n (m ∷ ms) = min n (least m ms)

abbrev pub fits_times : Term → List Use → ℕ
fits_times t [] = 1
fits_times t (u ∷ us) = least (times_at t u) (map (times_at t) us)

-- a match that is taken so often
abbrev pub so_often : ℕ → Use → Use
so_often n (uses.Symbol s k) = uses.Symbol s (pos n *ℤ k)
so_often n (uses.Dot m k) = uses.Dot m (pos n *ℤ k)
so_often n u = u

abbrev pub multiplied : Taken → Match → Taken
multiplied x m =
    let n = fits_times x.left m.takes in
    record { left = left_of x.left (map (so_often n) m.takes); cuts = x.cuts; matches = m.bindings ∷ []; times = n }

-- the first match of what is left, one after the other, until there is none or it would remove nothing; each removes
-- something, so they end before there have been so many as the exponents and things of the term add up to
abbrev pub and_more_by : (Taken → Taken) → Taken → Option Match → Taken
and_more_by go x None = x
and_more_by go x (Some m) = if is_idle m then x else go (and_match x m)

unfoldable pub and_more : ℕ → List (Option (List Piece)) → Factors → Taken → Taken
and_more zero table pattern x = x
and_more (suc n) table pattern x = and_more_by (λ y. and_more n table pattern y) x (first_of table pattern x.left (map (λ c. c.place) x.cuts) false)

abbrev pub weight : Term → ℕ
weight t = sum (map (λ p. nat_abs p.exponent) t.symbols) + sum (map (λ d. nat_abs d.exponent) t.others.dots)
    + length t.others.components + length t.others.deltas + length t.others.functions + length t.others.word

abbrev pub taken_once : Taken → Option Match → Option Taken
taken_once x m = option_map (and_match x) m

abbrev pub taken_many : List (Option (List Piece)) → Factors → Option Taken → Option Taken
taken_many table pattern x = option_map (λ y. and_more (weight y.left + 1) table pattern y) x

abbrev pub taken_as : Taking → List (Option (List Piece)) → Factors → Term → List ℕ → Option Taken
taken_as Once table pattern t cuts = taken_once (untouched t cuts) (first_of table pattern t cuts false)
taken_as Only table pattern t cuts = taken_once (untouched t cuts) (first_of table pattern t cuts true)
taken_as Multi table pattern t cuts = option_map (multiplied (untouched t cuts)) (first_of table pattern t cuts false)
taken_as Many table pattern t cuts = taken_many table pattern (taken_once (untouched t cuts) (first_of table pattern t cuts false))

-- What a pattern takes out of a term, whose word has been cut at these places; none where it matches nothing, while a match
-- that takes nothing is one.
unfoldable pub take_out : List (Option (List Piece)) → Factors → Option Taking → Term → List ℕ → Option Taken
take_out table pattern option t cuts = taken_as (option_of option pattern) table pattern t cuts
