-- A pattern as it is kept.
use Rattle.std.specs.Prelude.{List}
use Rattle.form_tree.specs.declared.pattern.PatternPiece.{PatternPiece}
use Rattle.form_tree.specs.declared.tree.Piece.{Piece}

-- its pieces, and those of each of its arguments without wildcards
pub record Pieces : Type 0 where
  pub pieces : List PatternPiece
  pub fixed : List (List Piece)

abbrev pub pattern_of : List PatternPiece → List (List Piece) → Pieces
pattern_of ps args = record { pieces = ps; fixed = args }
