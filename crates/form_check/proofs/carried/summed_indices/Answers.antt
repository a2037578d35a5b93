use Rattle.std.proofs.Common.{arith}
use Rattle.std.proofs.lemmas.Result.{err_from_is_err_and}
use Rattle.form_check.specs.Carried.{summed_index}
use Rattle.form_right_side.specs.Refusal.{listed}
use Rattle.form_right_side.proofs.Loops.{listed-start, listed-next, listed-refused, listed-end}
use Rattle.form_check.proofs.carried.summed_indices.Goals as goal

pub loop-spelled-init : goal.loop-spelled-init
loop-spelled-init c = rw c.in_ok-ids.ensures.items (listed-start (summed_index c.args.names.now) c.args.list.now)

pub loop-spelled-preserved : goal.loop-spelled-preserved
loop-spelled-preserved c =
    rw c.in_ok-push.ensures.items (listed-next (summed_index c.args.names.now) c.args.list.now c.loop-spelled.ids.items c.in_ok-summed_index.field-0 c.loop-spelled.spelled-index c.spelled-item.result (listed (summed_index c.args.names.now) c.args.list.now) (omega arith) c.spelled-item.is c.loop-spelled.invariant c.in_ok-summed_index.ensures)

pub returns-in_err-summed_index : goal.returns-in_err-summed_index
returns-in_err-summed_index c =
    let p = err_from_is_err_and c.from_residual-in_err-summed_index.result c.from_residual-in_err-summed_index.ensures.1 in
    rw (p.1, p.2) (listed-refused (summed_index c.args.names.now) c.args.list.now c.loop-spelled.ids.items c.loop-spelled.spelled-index c.spelled-item.result (listed (summed_index c.args.names.now) c.args.list.now) c.in_err-summed_index.field-0.0 (omega arith) c.spelled-item.is c.loop-spelled.invariant c.in_err-summed_index.ensures)

pub returns : goal.returns
returns c =
    rw c.from_vec.ensures (listed-end (summed_index c.args.names.now) c.args.list.now c.loop-spelled.ids.items c.loop-spelled.spelled-index (listed (summed_index c.args.names.now) c.args.list.now) (omega arith) c.loop-spelled.invariant)
