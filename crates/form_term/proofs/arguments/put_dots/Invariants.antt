-- What was put and what is left are the whole.
use Rattle.std.proofs.Common.{◌≡◌, ◌++◌, map, drop}
use Rattle.form_term.specs.Pieces.{piece_of_dot}
use Rattle.form_term.proofs.arguments.put_dots.Given as goal

abbrev pub invariant-loop-dot : goal.invariant-loop-dot
invariant-loop-dot l = l.pieces.items ++ map piece_of_dot (drop l.dot-index l.dots) ≡ l.initial.pieces.items ++ map piece_of_dot l.dots
