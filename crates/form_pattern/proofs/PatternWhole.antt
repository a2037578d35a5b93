-- A whole pattern.
use Rattle.std.proofs.Common.{◌≡◌, ℕ, Bool, List, [], Some, Result, Ok, sym, ap, ◌∙◌}
use Rattle.form_names.specs.Names.{Entry}
use Rattle.form_ast.specs.declared.expr.Piece.{Piece}
use Rattle.form_ast.specs.Building.{tree_of}
use Rattle.form_ast.specs.Lawful.{ArePattern}
use Rattle.form_ast.specs.Syntax as syntax
use Rattle.form_tree.specs.declared.pattern.PatternPiece.{PatternPiece}
use Rattle.form_tree.specs.Patterns.{pattern_of}
use Rattle.form_right_side.specs.declared.error.CheckError.{CheckError}
use Rattle.form_right_side.specs.declared.error.CheckError.TheVariants.{Refused, Memory}
use Rattle.form_pattern.specs.declared.reading.Place.TheVariants.{Product}
use Rattle.form_pattern.specs.declared.reading.Reading.{Reading}
use Rattle.form_right_side.specs.RightSide.{Known}
use Rattle.form_pattern.specs.Pattern.{known_of, fields_of, raws_of, kept, pattern_from, pattern_checked}
use Rattle.form_pattern.specs.PatternWalking.{at, walked, made}
use Rattle.form_right_side.specs.Refusal.{Refusal, IsRefused, ◌>>=◌}
use Rattle.form_right_side.proofs.Binding.{bind-bind, bind-same}
use Rattle.form_pattern.proofs.Joined.{puts, joined-pieces}
use Rattle.form_pattern.proofs.PatternWalked as tree_walked
use Rattle.form_pattern.proofs.PatternWalked.{pattern-walked}

module _ (names : List Entry) (stands : ℕ → Bool) (law : (tree : syntax.Sum) → tree_of (syntax.pieces_of_sum tree) ≡ Some tree) (list : List Piece) (lawful : ArePattern list) where
  abbrev all_walked : Result Reading Refusal
  all_walked = walked names stands (fields_of list) (at [] [] Product []) list

  -- a pattern is what its tree gives, and what going through its pieces gives
  whole : pattern_checked names list ≡ (all_walked >>= (λ s. Ok (made s)))
  unfolding pattern_checked
  whole =
      let r = raws_of names (fields_of list) [] lawful.tree in
      ap (λ (l : List Piece). pattern_from names list (tree_of l)) lawful.pieces
      ∙ ap (pattern_from names list) (law lawful.tree)
      ∙ bind-same r (λ x. Ok (kept x.0 x.1)) (λ x. Ok (made (at [] (puts [] x.0) Product (tree_walked.kept x.1))))
      (λ x. ap (λ (ps : List PatternPiece). Ok (pattern_of ps (tree_walked.kept x.1))) (joined-pieces x.0))
      ∙ sym (bind-bind r (λ x. Ok (at [] (puts [] x.0) Product (tree_walked.kept x.1))) (λ s. Ok (made s)))
      ∙ ap (λ (t : Result Reading Refusal). t >>= (λ s. Ok (made s)))
      (sym (pattern-walked names stands (fields_of list) lawful.tree lawful.is_pattern lawful.lawful) ∙ ap (walked names stands (fields_of list) (at [] [] Product [])) (sym lawful.pieces))

  module _ (start : Reading) (known : Known) (same : start ≡ at [] [] Product []) (knows : known ≡ known_of names list) where
    from : walked names stands known.fields start list ≡ all_walked
    from = ap (λ (k : Known). walked names stands k.fields start list) knows ∙ ap (λ (s : Reading). walked names stands (fields_of list) s list) same

    pub pattern-given : (s : Reading) → walked names stands known.fields start list ≡ Ok s → pattern_checked names list ≡ Ok (made s)
    pattern-given s is = whole ∙ ap (λ (r : Result Reading Refusal). r >>= (λ t. Ok (made t))) (sym from ∙ is)

    pub pattern-refused : (e : CheckError) → IsRefused e (walked names stands known.fields start list) → IsRefused e (pattern_checked names list)
    pattern-refused Memory is = tt
    pattern-refused (Refused cause spot) is = whole ∙ ap (λ (r : Result Reading Refusal). r >>= (λ t. Ok (made t))) (sym from ∙ is)
