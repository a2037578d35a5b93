-- A pattern made ready.
use Rattle.std.specs.Prelude.{Bool, true, false, ◌&&◌, List, map, Option, option_map}
use Rattle.form_term.specs.declared.piece.Piece.{Piece}
use Rattle.form_term.specs.Term.{Call}
use Rattle.form_tree.specs.declared.pattern.Name.{Name}
use Rattle.form_tree.specs.declared.pattern.Name.TheVariants.{Itself, Wild}
use Rattle.form_tree.specs.declared.pattern.PatternPiece.{PatternPiece}
use Rattle.form_tree.specs.declared.pattern.PatternPiece.TheVariants as pieces

-- its pieces, and what its arguments without wildcards are
pub record ReadyPattern : Type 0 where
  pub pieces : List PatternPiece
  pub fixed : List (Option (List Piece))

abbrev pub ready : List PatternPiece → List (Option Call) → ReadyPattern
ready ps calls = record { pieces = ps; fixed = map (option_map (λ c. c.pieces)) calls }

abbrev pub is_itself : Name → Bool
is_itself (Itself n) = true
is_itself (Wild w sets) = false

-- symbols and dot products alone, without wildcards
abbrev pub is_plain_piece : PatternPiece → Bool
is_plain_piece (pieces.Symbol n k) = is_itself n
is_plain_piece (pieces.Dot p q k) = is_itself p && is_itself q
is_plain_piece _ = false

-- a wildcard stands for an exponent
abbrev pub is_whole_piece : PatternPiece → Bool
is_whole_piece (pieces.Whole n m) = true
is_whole_piece _ = false
