-- Pieces of a pattern by what they are not.
use Rattle.std.proofs.Common.{◌≡◌, List, [], ◌∷◌, Option, refl}
use Rattle.form_term.specs.declared.piece.Piece.{Piece}
use Rattle.form_term.specs.Term as terms
use Rattle.form_tree.specs.declared.pattern.PatternPiece.{PatternPiece}
use Rattle.form_tree.specs.declared.pattern.PatternPiece.TheVariants as pieces
use Rattle.form_match.specs.Leading.{IsPlain}
use Rattle.form_match.specs.States.{Open, arguments, moves}
use Rattle.form_bindings.specs.Values.{Binding}

module _ (table : List (Option (List Piece))) (os : List Open) (bs : List Binding) where
  -- without arguments nothing takes one
  pub none_taken : (p : PatternPiece) → IsPlain p → moves table p (arguments [] ∷ os) bs ≡ []
  none_taken pieces.EndOfArguments plain = absurd (plain.no_end refl)
  none_taken pieces.Product plain = absurd (plain.no_product refl)
  none_taken (pieces.Field w) plain = absurd (plain.no_field w refl)
  none_taken p plain = refl
