use Rattle.std.proofs.lemmas.Result.{err_from_is_err_and}
use Rattle.form_check.proofs.Rewritten.{pattern-refused, right-refused, rewriting-Ok}
use Rattle.form_check.proofs.acting.rewriting.Goals as goal

pub returns-in_err-pattern : goal.returns-in_err-pattern
returns-in_err-pattern c =
    let p = err_from_is_err_and c.from_residual-in_err-pattern.result c.from_residual-in_err-pattern.ensures.1 in
    let refused = rw c.as_slice-written.ensures at c.in_err-pattern.ensures in
    rw (p.1, p.2) (pattern-refused c.args.names.now c.args.rewrite.now c.in_err-pattern.field-0.0 refused)

pub returns-in_err-right : goal.returns-in_err-right
returns-in_err-right c =
    let p = err_from_is_err_and c.from_residual-in_err-right.result c.from_residual-in_err-right.ensures.1 in
    let known = rw c.as_slice-written.ensures at c.in_ok-known.ensures in
    let made = rw c.as_slice-written.ensures at c.in_ok-pattern.ensures in
    let refused = rw c.as_slice.ensures at c.in_err-right.ensures in
    rw (p.1, p.2) (right-refused c.args.names.now c.args.rewrite.now c.in_ok-known.known c.in_ok-pattern.pattern known made c.in_err-right.field-0.0 refused)

pub returns : goal.returns
returns c =
    let known = rw c.as_slice-written.ensures at c.in_ok-known.ensures in
    let made = rw c.as_slice-written.ensures at c.in_ok-pattern.ensures in
    let given = rw c.as_slice.ensures at c.in_ok-right.ensures in
    rewriting-Ok c.args.names.now c.args.rewrite.now c.in_ok-known.known c.in_ok-pattern.pattern known made c.in_ok-right.right given
