use Rattle.std.proofs.lemmas.Result.{err_from_is_err_and}
use Rattle.form_collect.specs.Collector.{IsCollectionOf}
use Rattle.form_flow.specs.Statements.{outputs}
use Rattle.form_module.specs.Inputs.{inputs_left}
use Rattle.form_module.specs.Module.{through}
use Rattle.form_module.proofs.Taken.{batch_done, batch_failed, batch_fewer, batch_more, batch_refused, taken_none}
use Rattle.form_module.proofs.result.add_batches.Goals as goal

pub batches-init : goal.batches-init
batches-init c = taken_none IsCollectionOf (through (outputs c.args.statements.now) (inputs_left c.args.inputs.now)) c.args.collector.now

pub batches-preserved : goal.batches-preserved
batches-preserved c =
    let go = outputs c.args.statements.now in
    batch_more IsCollectionOf go (through go (inputs_left c.args.inputs.now)) (inputs_left c.batches.inputs) (inputs_left c.next_batch.new.inputs) c.in_ok-items.field-0
    c.args.collector.now c.batches.collector c.add_each.new.collector c.batches.invariant c.in_ok-items.ensures.batch c.in-More.is c.in_ok-add_each.ensures

pub batches-smaller : goal.batches-smaller
batches-smaller c =
    batch_fewer (inputs_left c.batches.inputs) (inputs_left c.next_batch.new.inputs) c.in_ok-items.field-0 c.in_ok-items.ensures.batch c.in-More.is

pub returns-in_err-add_each : goal.returns-in_err-add_each
returns-in_err-add_each c =
    let go = outputs c.args.statements.now in
    let p = err_from_is_err_and c.from_residual-in_err-add_each.result c.from_residual-in_err-add_each.ensures.1 in
    rw (p.1, p.2)
    (batch_refused IsCollectionOf go (through go (inputs_left c.args.inputs.now)) (inputs_left c.batches.inputs) (inputs_left c.next_batch.new.inputs) c.in_ok-items.field-0
    c.args.collector.now c.batches.collector c.add_each.new.collector c.batches.invariant c.in_ok-items.ensures.batch c.in_err-add_each.field-0.0 c.in_err-add_each.ensures)

pub returns-in-Done : goal.returns-in-Done
returns-in-Done c =
    let go = outputs c.args.statements.now in
    batch_done IsCollectionOf go (through go (inputs_left c.args.inputs.now)) (inputs_left c.batches.inputs) (inputs_left c.next_batch.new.inputs) c.in_ok-items.field-0
    c.args.collector.now c.batches.collector c.add_each.new.collector c.batches.invariant c.in_ok-items.ensures.batch c.in-Done.is c.in_ok-add_each.ensures

pub returns-in-Failed : goal.returns-in-Failed
returns-in-Failed c =
    let go = outputs c.args.statements.now in
    rw c.from.ensures
    (batch_failed IsCollectionOf go (through go (inputs_left c.args.inputs.now)) (inputs_left c.batches.inputs) (inputs_left c.next_batch.new.inputs) c.in_ok-items.field-0
    c.args.collector.now c.batches.collector c.add_each.new.collector c.batches.invariant c.in_ok-items.ensures.batch c.in-Failed.error c.in-Failed.is c.in_ok-add_each.ensures)
