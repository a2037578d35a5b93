-- Lists of pieces one behind the other.
use Rattle.std.specs.Prelude.{List, [], ◌∷◌, ◌++◌}
use Rattle.form_ast.specs.declared.expr.Piece.{Piece}

abbrev pub joined : List (List Piece) → List Piece
joined [] = []
joined (part ∷ rest) = part ++ joined rest
