use Rattle.std.proofs.Common.{◌≡◌, ◌++◌}
use Rattle.std.specs.Vec.Iter.{into_iter_items}
use Rattle.form_ast.specs.Joined.{joined}
use Rattle.form_ast.proofs.long_expr.LongExpr.into_expr.Given as goal

-- what is left stands behind what was joined
abbrev pub invariant-loop-part : goal.invariant-loop-part
invariant-loop-part l = l.pieces.items ++ joined (into_iter_items l.part-iterator) ≡ l.fn.self
