use Rattle.std.proofs.Common.{arith}
use Rattle.std.proofs.lemmas.Result.{err_from_is_err_and}
use Rattle.form_check.specs.Checking.{expression, expressions}
use Rattle.form_right_side.proofs.Loops.{listed-start, listed-next, listed-refused, listed-end}
use Rattle.form_check.proofs.naming.expressions_of.Goals as goal

pub loop-spelled-init : goal.loop-spelled-init
loop-spelled-init c = rw c.in_ok-ids.ensures.items (listed-start (expression c.args.names.now) c.args.list.now)

pub loop-spelled-preserved : goal.loop-spelled-preserved
loop-spelled-preserved c =
    rw c.in_ok-push.ensures.items (listed-next (expression c.args.names.now) c.args.list.now c.loop-spelled.ids.items c.in_ok-expression_of.field-0 c.loop-spelled.spelled-index c.spelled-item.result (expressions c.args.names.now c.args.list.now) (omega arith) c.spelled-item.is c.loop-spelled.invariant c.in_ok-expression_of.ensures)

pub returns-in_err-expression_of : goal.returns-in_err-expression_of
returns-in_err-expression_of c =
    let p = err_from_is_err_and c.from_residual-in_err-expression_of.result c.from_residual-in_err-expression_of.ensures.1 in
    rw (p.1, p.2) (listed-refused (expression c.args.names.now) c.args.list.now c.loop-spelled.ids.items c.loop-spelled.spelled-index c.spelled-item.result (expressions c.args.names.now c.args.list.now) c.in_err-expression_of.field-0.0 (omega arith) c.spelled-item.is c.loop-spelled.invariant c.in_err-expression_of.ensures)

pub returns : goal.returns
returns c =
    rw c.from_vec.ensures (listed-end (expression c.args.names.now) c.args.list.now c.loop-spelled.ids.items c.loop-spelled.spelled-index (expressions c.args.names.now c.args.list.now) (omega arith) c.loop-spelled.invariant)
