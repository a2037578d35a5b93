use Rattle.std.proofs.lemmas.Result.{err_from_is_err_and}
use Rattle.form_collect.specs.Collector.{IsCollectionOf}
use Rattle.form_module.specs.Inputs.{inputs_left}
use Rattle.form_module.proofs.Taken.{all_taken, fewer, left_refused, taken_none, taken_term}
use Rattle.form_module.proofs.result.add_unchanged.Goals as goal

pub loop-item-init : goal.loop-item-init
loop-item-init c = taken_none IsCollectionOf (inputs_left c.args.inputs.now) c.args.collector.now

pub loop-item-preserved : goal.loop-item-preserved
loop-item-preserved c =
    taken_term IsCollectionOf (inputs_left c.args.inputs.now) c.args.collector.now (inputs_left c.loop-item.inputs) c.loop-item.collector c.loop-item.invariant
    (inputs_left c.next.new.self) c.add.new.self c.in-Some.item (rw c.in-Some.is at c.in_ok-item.ensures) c.in_ok-add.ensures.ok

pub loop-item-smaller : goal.loop-item-smaller
loop-item-smaller c =
    fewer (inputs_left c.loop-item.inputs) (inputs_left c.next.new.self) c.in-Some.item (rw c.in-Some.is at c.in_ok-item.ensures)

pub returns-in_err-item : goal.returns-in_err-item
returns-in_err-item c =
    let p = err_from_is_err_and c.from_residual.result c.from_residual.ensures.1 in
    rw (p.1, p.2)
    (left_refused IsCollectionOf (inputs_left c.args.inputs.now) c.args.collector.now (inputs_left c.loop-item.inputs) c.loop-item.collector c.loop-item.invariant
    (inputs_left c.next.new.self) c.in_err-item.field-0.0 c.in_err-item.ensures)

pub returns : goal.returns
returns c =
    let ends = rw c.in_default.is at c.in_ok-item.ensures in
    all_taken IsCollectionOf (inputs_left c.args.inputs.now) c.args.collector.now (inputs_left c.loop-item.inputs) c.loop-item.collector c.loop-item.invariant ends.0
