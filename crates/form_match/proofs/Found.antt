-- The first match, by what the search finds.
use Rattle.std.proofs.Common.{◌≡◌, ℕ, Bool, List, Option, Some, None, sym, ap, ◌∙◌}
use Rattle.std.specs.Prelude.{IfSome}
use Rattle.form_term.specs.declared.piece.Piece.{Piece}
use Rattle.form_term.specs.Term.{Term, IsTerm}
use Rattle.form_tree.specs.declared.pattern.PatternPiece.{PatternPiece}
use Rattle.form_tree.specs.Pattern.{Factors, pieces_of_factors}
use Rattle.form_match.specs.declared.matching.Match.{Match}
use Rattle.form_match.specs.Fits.{Fits}
use Rattle.form_match.specs.Matching.{first_of, outer}
use Rattle.form_match.specs.States.{first_found, reach, start}
use Rattle.form_match.proofs.Heads.{first_reached}
use Rattle.form_match.proofs.Held.{found_fits}

module _ (t : Term) (cuts : List ℕ) (is_exact : Bool) where
  pub reached_is : (table tried : List (Option (List Piece))) (fs : Factors) (ps : List PatternPiece) → tried ≡ table → ps ≡ pieces_of_factors fs
      → first_found (reach tried ps (start (outer t cuts is_exact))) ≡ first_of table fs t cuts is_exact
  reached_is table tried fs ps same is =
      ap (λ (l : List (Option (List Piece))). first_found (reach l ps (start (outer t cuts is_exact)))) same
      ∙ ap (λ (l : List PatternPiece). first_found (reach table l (start (outer t cuts is_exact)))) is
      ∙ first_reached table fs t cuts is_exact

  pub found_fitting : (table : List (Option (List Piece))) (ps : List PatternPiece) (found : Option Match) → IsTerm t → found ≡ first_found (reach table ps (start (outer t cuts is_exact)))
      → IfSome found (λ m. Fits m.takes t)
  found_fitting table ps None lawful e = tt
  found_fitting table ps (Some m) lawful e = found_fits t lawful table ps cuts is_exact m (sym e)
