-- Short ways through a right side.
use Rattle.std.proofs.Common.{ℕ, Bool, List, Result, Ok, Err, IfOk}
use Rattle.form_names.specs.Names.{Entry}
use Rattle.form_ast.specs.declared.expr.Link.{Link}
use Rattle.form_ast.specs.declared.expr.Named.{Named}
use Rattle.form_ast.specs.declared.expr.Piece.{Piece}
use Rattle.form_ast.specs.declared.expr.Piece.TheVariants as written
use Rattle.form_right_side.specs.declared.walk.Walk as walks
use Rattle.form_right_side.specs.RightSide.{Known}
use Rattle.form_right_side.specs.Walking.{walk_of, called, in_sum, IfPlain}

-- a function begins, whatever stands in its arguments
pub begins-call : {E : Type 0} (r : Result Bool E) (names : List Entry) (known : Known) (before after : walks.Walk) (link : Link) (n : Named) (rest : List Piece)
    → IfOk r (λ is_plain. (all : List Piece) → IfPlain is_plain (called names (walk_of before) link n all) before after)
    → IfOk r (λ is_plain. (stands : ℕ → Bool) → IfPlain is_plain (in_sum names stands known (walk_of before) (written.Call link n) rest) before after)
begins-call (Ok is_plain) names known before after link n rest given = λ stands. given rest
begins-call (Err e) names known before after link n rest given = tt
