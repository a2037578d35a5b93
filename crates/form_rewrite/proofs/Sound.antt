-- What is taken out of a term has its names at their places.
use Rattle.std.proofs.Common.{◌≡◌, ℕ, zero, suc, ◌+◌, ◌<◌, Bool, true, false, if◌then◌else◌, List, [], ◌∷◌, map, Option, Some, None, IfSome, option_map, refl, subst, arith, length-append}
use Rattle.std.specs.List.{AllByRecursion, list_all, list_any}
use Rattle.form_base.specs.declared.taking.Taking.{Taking}
use Rattle.form_base.specs.declared.taking.Taking.TheVariants.{Once, Only, Multi, Many}
use Rattle.form_term.specs.declared.piece.Piece.{Piece}
use Rattle.form_term.specs.Named.{Places, IsNamed}
use Rattle.form_term.specs.Term.{Term, IsTerm}
use Rattle.form_term.proofs.Each.{each_append}
use Rattle.form_tree.specs.declared.pattern.PatternPiece.{PatternPiece}
use Rattle.form_tree.specs.Pattern.{Factors, pieces_of_factors}
use Rattle.form_tree.specs.Placed.{IsPatternPlaced}
use Rattle.form_bindings.specs.Named.{AreSoundBindings}
use Rattle.form_match.specs.declared.matching.Match.{Match}
use Rattle.form_match.specs.Matching.{first_of}
use Rattle.form_match.specs.Ready.{is_plain_piece, is_whole_piece}
use Rattle.form_match.proofs.Held.{first_fits}
use Rattle.form_match.proofs.Named.{left_named, bindings_sound}
use Rattle.form_match.proofs.Remaining.{left_lawful}
use Rattle.form_rewrite.specs.declared.taken.Taken.{Taken}
use Rattle.form_rewrite.specs.Sound.{IsSoundTaken}
use Rattle.form_rewrite.specs.Taking.{usual, option_by, option_of, and_match, untouched, is_idle, fits_times, so_often, multiplied, and_more_by, and_more, weight, taken_once, taken_many, taken_as, take_out}
use Rattle.form_rewrite.proofs.Fitting.{often_fits}
use Rattle.form_rewrite.proofs.Plainly.{plain_fits}

-- a pattern is plain where it is taken as often as it fits
abbrev IsPlainFor : Taking → List PatternPiece → Type 0
IsPlainFor Once ps = Unit {0}
IsPlainFor Only ps = Unit {0}
IsPlainFor Multi ps = list_all is_plain_piece ps ≡ true
IsPlainFor Many ps = Unit {0}

usual_plain : (ps : List PatternPiece) → IsPlainFor (usual ps) ps
usual_plain ps = by (list_all is_plain_piece ps) (list_any is_whole_piece ps) refl
  where
    by : (a b : Bool) → list_all is_plain_piece ps ≡ a → IsPlainFor (if a then Multi else if b then Once else Many) ps
    by true b e = e
    by false true e = tt
    by false false e = tt

option_plain : (option : Option Taking) (ps : List PatternPiece) → IsPlainFor (option_by option ps) ps
option_plain None ps = usual_plain ps
option_plain (Some Once) ps = tt
option_plain (Some Only) ps = tt
option_plain (Some Multi) ps = usual_plain ps
option_plain (Some Many) ps = tt

-- what there is before a further match
record IsBefore (names : Places) (x : Taken) : Type 0 where
  named : IsNamed names x.left
  lawful : IsTerm x.left
  matches : AllByRecursion (AreSoundBindings names) x.matches
  times : 0 < x.times

module _ (names : Places) (table : List (Option (List Piece))) (fs : Factors) (placed : IsPatternPlaced names fs) where
  abbrev IsSound : Taken → Type 0
  IsSound x = IsSoundTaken names x

  before : (x : Taken) → IsSound x → IsBefore names x
  before x h = record { named = h.named; lawful = h.lawful; matches = h.matches; times = h.times }

  module _ (x : Taken) (cuts : List ℕ) (is_exact : Bool) (h : IsBefore names x) where
    match_sound : (m : Match) → first_of table fs x.left cuts is_exact ≡ Some m → IsSound (and_match x m)
    match_sound m e = record {
      named = left_named names m.takes x.left h.named;
      lawful = left_lawful x.left m.takes h.lawful (first_fits x.left h.lawful table fs cuts is_exact m e);
      matches = each_append (AreSoundBindings names) x.matches (m.bindings ∷ []) h.matches (bindings_sound names table fs x.left cuts is_exact m h.named h.lawful placed e, tt);
      some = omega (arith, length-append x.matches (m.bindings ∷ []));
      times = h.times;
    }

    once_sound : (o : Option Match) → first_of table fs x.left cuts is_exact ≡ o → IfSome (taken_once x o) IsSound
    once_sound None e = tt
    once_sound (Some m) e = match_sound m e

    multi_sound : list_all is_plain_piece (pieces_of_factors fs) ≡ true → (o : Option Match) → first_of table fs x.left cuts is_exact ≡ o → IfSome (option_map (multiplied x) o) IsSound
    multi_sound plain None e = tt
    multi_sound plain (Some m) e =
        let fit = first_fits x.left h.lawful table fs cuts is_exact m e in
        let some = plain_fits table fs x.left cuts is_exact m plain e fit in
        record {
          named = left_named names (map (so_often (fits_times x.left m.takes)) m.takes) x.left h.named;
          lawful = left_lawful x.left (map (so_often (fits_times x.left m.takes)) m.takes) h.lawful (often_fits x.left m.takes some fit);
          matches = (bindings_sound names table fs x.left cuts is_exact m h.named h.lawful placed e, tt);
          some = omega arith;
          times = some;
        }

  more_sound : (n : ℕ) (x : Taken) → IsSound x → IsSound (and_more n table fs x)
  unfolding and_more
  more_sound zero x h = h
  more_sound (suc n) x h = by (first_of table fs x.left (map (λ c. c.place) x.cuts) false) refl (λ y k. more_sound n y k)
    where
      go_on : (m : Match) (b : Bool) → first_of table fs x.left (map (λ c. c.place) x.cuts) false ≡ Some m → ((y : Taken) → IsSound y → IsSound (and_more n table fs y)) → IsSound (if b then x else and_more n table fs (and_match x m))
      go_on m true e rest = h
      go_on m false e rest = rest (and_match x m) (match_sound x (map (λ c. c.place) x.cuts) false (before x h) m e)

      by : (o : Option Match) → first_of table fs x.left (map (λ c. c.place) x.cuts) false ≡ o → ((y : Taken) → IsSound y → IsSound (and_more n table fs y)) → IsSound (and_more_by (λ y. and_more n table fs y) x o)
      by None e rest = h
      by (Some m) e rest = go_on m (is_idle m) e rest

  many_sound : (o : Option Taken) → IfSome o IsSound → IfSome (taken_many table fs o) IsSound
  many_sound None h = tt
  many_sound (Some y) h = more_sound (weight y.left + 1) y h

  as_sound : (o : Taking) (t : Term) (cuts : List ℕ) → IsPlainFor o (pieces_of_factors fs) → IsBefore names (untouched t cuts) → IfSome (taken_as o table fs t cuts) IsSound
  as_sound Once t cuts plain h = once_sound (untouched t cuts) cuts false h (first_of table fs t cuts false) refl
  as_sound Only t cuts plain h = once_sound (untouched t cuts) cuts true h (first_of table fs t cuts true) refl
  as_sound Multi t cuts plain h = multi_sound (untouched t cuts) cuts false h plain (first_of table fs t cuts false) refl
  as_sound Many t cuts plain h = many_sound (taken_once (untouched t cuts) (first_of table fs t cuts false)) (once_sound (untouched t cuts) cuts false h (first_of table fs t cuts false) refl)

  pub taken_sound : (option : Option Taking) (t : Term) (cuts : List ℕ) → IsNamed names t → IsTerm t → IfSome (take_out table fs option t cuts) IsSound
  unfolding take_out
  taken_sound option t cuts named lawful =
      as_sound (option_of option fs) t cuts (option_plain option (pieces_of_factors fs)) (record { named = named; lawful = lawful; matches = tt; times = omega arith })

pub take_out_sound : (names : Places) (table : List (Option (List Piece))) (fs : Factors) (option : Option Taking) (t : Term) (cuts : List ℕ) (x : Taken) → IsNamed names t → IsTerm t → IsPatternPlaced names fs
    → take_out table fs option t cuts ≡ Some x → IsSoundTaken names x
take_out_sound names table fs option t cuts x named lawful placed e =
    subst (λ (o : Option Taken). IfSome o (IsSoundTaken names)) e (taken_sound names table fs placed option t cuts named lawful)
