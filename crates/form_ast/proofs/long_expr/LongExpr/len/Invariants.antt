use Rattle.std.proofs.Common.{◌≡◌, ◌+◌, ◌-◌, ◌^◌, ◌≤◌, min, length}
use Rattle.form_ast.specs.Joined.{joined}
use Rattle.form_ast.proofs.long_expr.LongExpr.len.Given as goal

-- what was counted and what is left come to all pieces
abbrev pub invariant-loop-part : goal.invariant-loop-part
invariant-loop-part l = l.count ≤ (2 ^ 64 - 1) × min (l.count + length (joined l.rest)) (2 ^ 64 - 1) ≡ min (length l.fn.self) (2 ^ 64 - 1)

abbrev pub decreases-loop-part : goal.decreases-loop-part
decreases-loop-part l = length l.rest
