-- What is read of a right side that comes token by token.
use Rattle.std.specs.Prelude.{◌≡◌, List, ◌++◌, Option, None, if◌then◌else◌}
use Rattle.form_ast.specs.declared.expr.Piece.{Piece}
use Rattle.form_ast.specs.declared.setting.Setting.TheVariants.{Plain}
use Rattle.form_grammar.specs.declared.right_side.RightSide.{RightSide}
use Rattle.form_grammar.specs.declared.terminal.Terminal.{Terminal}
use Rattle.form_grammar.specs.Reading.{begun, reading_of, run}

-- the pieces that these terminals lead on to
abbrev pub pieces_with : RightSide → List Terminal → Option (List Piece)
pieces_with r rest = if r.has_failed then None else run Plain (reading_of r.reader) rest

-- these terminals were read: whatever follows, they lead on to the same pieces
abbrev pub HasRead : List Terminal → RightSide → Type 0
HasRead terminals r = (rest : List Terminal) → run Plain begun (terminals ++ rest) ≡ pieces_with r rest
