use Rattle.std.proofs.Common.{◌≡◌, ◌++◌}
use Rattle.std.specs.Vec.Iter.{into_iter_items}
use Rattle.form_ast.proofs.long_expr.append.Given as goal

-- what is left stands behind what was put
abbrev pub invariant-loop-piece : goal.invariant-loop-piece
invariant-loop-piece l = l.pieces.items ++ into_iter_items l.piece-iterator ≡ l.fn.pieces.items ++ l.fn.others.items
