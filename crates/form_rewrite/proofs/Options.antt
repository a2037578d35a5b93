-- What is taken by an option.
use Rattle.std.proofs.Common.{◌≡◌, ◌<◌, ℕ, Bool, true, false, cond, List, Option, Some, None, option_map, Result, IfOk, refl, ap, sym, ◌∙◌, subst}
use Rattle.std.specs.List.{list_all, list_any}
use Rattle.std.specs.declared.alloc.AllocError.{AllocError}
use Rattle.form_base.specs.declared.taking.Taking.{Taking}
use Rattle.form_base.specs.declared.taking.Taking.TheVariants.{Once, Only, Multi, Many}
use Rattle.form_term.specs.declared.piece.Piece.{Piece}
use Rattle.form_term.specs.Term.{Term}
use Rattle.form_tree.specs.declared.pattern.PatternPiece.{PatternPiece}
use Rattle.form_tree.specs.Pattern.{Factors, pieces_of_factors}
use Rattle.form_match.specs.Matching.{first_of}
use Rattle.form_match.specs.Ready.{is_plain_piece, is_whole_piece}
use Rattle.form_match.specs.declared.matching.Match.{Match}
use Rattle.form_match.specs.declared.uses.Use.{Use}
use Rattle.form_rewrite.specs.Takes.{taken_in}
use Rattle.form_rewrite.specs.Taking.{and_match, fits_times, option_by, option_of, take_out, taken_as, taken_many, taken_once, untouched, usual}
use Rattle.form_rewrite.specs.Ways.{FitsOften, all_more, is_exact, taken_by}
use Rattle.form_rewrite.specs.declared.taken.Take.{Take}
use Rattle.form_rewrite.specs.declared.taken.Taken.{Taken}

abbrev is_only : Taking → Bool
is_only Once = false
is_only Only = true
is_only Multi = false
is_only Many = false

usual_is_none : (ps : List PatternPiece) → is_only (usual ps) ≡ false
usual_is_none ps = by (list_all is_plain_piece ps) (list_any is_whole_piece ps)
  where
    by : (a b : Bool) → is_only (cond a Multi (cond b Once Many)) ≡ false
    by true b = refl
    by false true = refl
    by false false = refl

exact : (option : Option Taking) (ps : List PatternPiece) → is_only (option_by option ps) ≡ is_exact option
exact None ps = usual_is_none ps
exact (Some Once) ps = refl
exact (Some Only) ps = refl
exact (Some Multi) ps = usual_is_none ps
exact (Some Many) ps = refl

-- ---- what is taken as often as it fits is a match of a plain pattern

usual_plain : (ps : List PatternPiece) → usual ps ≡ Multi → list_all is_plain_piece ps ≡ true
usual_plain ps = by (list_all is_plain_piece ps) (list_any is_whole_piece ps)
  where
    by : (a b : Bool) → cond a Multi (cond b Once Many) ≡ Multi → a ≡ true
    by true b h = refl
    by false true h = cc
    by false false h = cc

option_plain : (option : Option Taking) (ps : List PatternPiece) → option_by option ps ≡ Multi → list_all is_plain_piece ps ≡ true
option_plain None ps h = usual_plain ps h
option_plain (Some Once) ps h = cc
option_plain (Some Only) ps h = cc
option_plain (Some Multi) ps h = usual_plain ps h
option_plain (Some Many) ps h = cc

pub fits_often : (o : Taking) (option : Option Taking) (ps : List PatternPiece) (t : Term) (us : List Use) → o ≡ option_by option ps → (list_all is_plain_piece ps ≡ true → 0 < fits_times t us) → FitsOften o t us
fits_often Once option ps t us is plain = tt
fits_often Only option ps t us is plain = tt
fits_often Multi option ps t us is plain = plain (option_plain option ps (sym is))
fits_often Many option ps t us is plain = tt

module _ (table : List (Option (List Piece))) (fs : Factors) where
  many : (x : Taken) (found : Option Match) → taken_many table fs (taken_once x found) ≡ option_map (λ m. all_more table fs (and_match x m)) found
  many x None = refl
  many x (Some m) = refl

  by_first : (o : Taking) (t : Term) (cuts : List ℕ) → taken_as o table fs t cuts ≡ option_map (taken_by o table fs (untouched t cuts)) (first_of table fs t cuts (is_only o))
  by_first Once t cuts = refl
  by_first Only t cuts = refl
  by_first Multi t cuts = refl
  by_first Many t cuts = many (untouched t cuts) (first_of table fs t cuts false)

  -- the first match decides
  pub decided : (option : Option Taking) (t : Term) (cuts : List ℕ) (b : Bool) (found : Option Match) → b ≡ is_exact option → found ≡ first_of table fs t cuts b
      → option_map (taken_by (option_of option fs) table fs (untouched t cuts)) found ≡ take_out table fs option t cuts
  unfolding take_out
  decided option t cuts b found by is =
      ap (λ o. option_map (taken_by (option_of option fs) table fs (untouched t cuts)) o)
      (is ∙ ap (λ a. first_of table fs t cuts a) (by ∙ sym (exact option (pieces_of_factors fs))))
      ∙ sym (by_first (option_of option fs) t cuts)

  pub decided_by : (option : Option Taking) (t : Term) (cuts : List ℕ) (b : Bool) (m : Match) (o : Taking) (x : Taken) → b ≡ is_exact option → Some m ≡ first_of table fs t cuts b
      → o ≡ option_of option fs → x ≡ taken_by o table fs (untouched t cuts) m → Some x ≡ take_out table fs option t cuts
  decided_by option t cuts b m o x by is same h =
      ap (λ (y : Taken). Some y) (h ∙ ap (λ p. taken_by p table fs (untouched t cuts) m) same) ∙ decided option t cuts b (Some m) by is

  -- what is said of the answer of another function
  pub decided_well : (option : Option Taking) (t : Term) (cuts : List ℕ) (b : Bool) (m : Match) (o : Taking) (x : Taken) → b ≡ is_exact option → Some m ≡ first_of table fs t cuts b
      → o ≡ option_of option fs → x ≡ taken_by o table fs (untouched t cuts) m → (r : Result Take AllocError) → IfOk r (λ take. taken_in take ≡ Some x)
      → IfOk r (λ take. taken_in take ≡ take_out table fs option t cuts)
  decided_well option t cuts b m o x by is same h r w = subst (λ (z : Option Taken). IfOk r (λ take. taken_in take ≡ z)) (decided_by option t cuts b m o x by is same h) w
