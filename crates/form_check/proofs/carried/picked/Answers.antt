use Rattle.std.proofs.Common.{arith}
use Rattle.std.proofs.lemmas.Result.{err_from_is_err_and}
use Rattle.form_check.specs.Carried.{picked}
use Rattle.form_right_side.specs.Refusal.{listed}
use Rattle.form_right_side.proofs.Loops.{listed-start, listed-next, listed-refused, listed-end}
use Rattle.form_check.proofs.carried.picked.Goals as goal

pub loop-one-init : goal.loop-one-init
loop-one-init c = rw c.in_ok-list.ensures.items (listed-start (picked c.args.names.now) c.args.written.now)

pub loop-one-preserved : goal.loop-one-preserved
loop-one-preserved c =
    rw c.in_ok-push.ensures.items (listed-next (picked c.args.names.now) c.args.written.now c.loop-one.list.items c.in_ok-picked_one.field-0 c.loop-one.one-index c.one-item.result (listed (picked c.args.names.now) c.args.written.now) (omega arith) c.one-item.is c.loop-one.invariant c.in_ok-picked_one.ensures)

pub returns-in_err-picked_one : goal.returns-in_err-picked_one
returns-in_err-picked_one c =
    let p = err_from_is_err_and c.from_residual-in_err-picked_one.result c.from_residual-in_err-picked_one.ensures.1 in
    rw (p.1, p.2) (listed-refused (picked c.args.names.now) c.args.written.now c.loop-one.list.items c.loop-one.one-index c.one-item.result (listed (picked c.args.names.now) c.args.written.now) c.in_err-picked_one.field-0.0 (omega arith) c.one-item.is c.loop-one.invariant c.in_err-picked_one.ensures)

pub returns : goal.returns
returns c =
    rw c.from_vec.ensures (listed-end (picked c.args.names.now) c.args.written.now c.loop-one.list.items c.loop-one.one-index (listed (picked c.args.names.now) c.args.written.now) (omega arith) c.loop-one.invariant)
