-- Arguments that stand alone, as those of a pattern without wildcards do.
use Rattle.std.specs.Prelude.{ℕ, ◌-◌, List, [], ◌∷◌, length, take, Option, Some, None, Result, Ok, Err}
use Rattle.form_base.specs.declared.cause.Cause.{Cause}
use Rattle.form_term.specs.declared.piece.Piece as kept
use Rattle.form_term.specs.Term.{Argument, index, vector, pieces_of_arguments}
use Rattle.form_tree.specs.declared.tree.Piece.{Piece}
use Rattle.form_tree.specs.declared.tree.Piece.TheVariants as pieces
use Rattle.form_expand.specs.Meanings.{Meanings, index_of, vector_of, field_of}
use Rattle.form_expand.specs.Reading.{list_of_pieces}
use Rattle.form_expand.specs.Singles.{argument_of, one_argument}

-- the pieces of arguments, none where one is refused
abbrev pub pieces_unless_refused : Result (List Argument) Cause → Option (List kept.Piece)
pieces_unless_refused (Err cause) = None
pieces_unless_refused (Ok args) = Some (pieces_of_arguments args)

-- the expression of these pieces and the mark of its end
abbrev pub expression_alone : ℕ → Meanings → List Piece → Result (List Argument) Cause
expression_alone max all ps = one_argument (argument_of (list_of_pieces max all (take (length ps - 1) ps)))

-- the arguments that the pieces of one give
abbrev pub arguments_alone : ℕ → Meanings → List Piece → Result (List Argument) Cause
arguments_alone max all (pieces.Index i ∷ ps) = Ok (index (index_of all i) ∷ [])
arguments_alone max all (pieces.Vector v ∷ ps) = Ok (vector (vector_of all v) ∷ [])
arguments_alone max all (pieces.Field w ∷ ps) = Ok (field_of all w)
arguments_alone max all (pieces.Argument ∷ ps) = expression_alone max all ps
arguments_alone max all ps = Ok []
