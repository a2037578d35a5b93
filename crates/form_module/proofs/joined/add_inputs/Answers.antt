use Rattle.std.proofs.Common.{◌≡◌, true}
use Rattle.std.proofs.lemmas.Result.{err_from_is_err_and}
use Rattle.form_flow.specs.Statements.{outputs}
use Rattle.form_gathered.specs.Joined.{HaveSums}
use Rattle.form_module.specs.Inputs.{inputs_left}
use Rattle.form_module.specs.Module.{through}
use Rattle.form_module.proofs.Taken.{batch_done, batch_failed, batch_fewer, batch_more, batch_refused, taken_none}
use Rattle.form_module.proofs.joined.add_inputs.Goals as goal

pub batches-init : goal.batches-init
batches-init c = taken_none HaveSums (through (outputs c.args.statements.now) (inputs_left c.args.inputs.now)) c.args.table.now

pub batches-preserved : goal.batches-preserved
batches-preserved c =
    let go = outputs c.args.statements.now in
    let is_added : c.in_ok-add_batch.field-0 ≡ true = c.if-not-branch.false in
    batch_more HaveSums go (through go (inputs_left c.args.inputs.now)) (inputs_left c.batches.inputs) (inputs_left c.next_batch.new.inputs) c.in_ok-items.field-0
    c.args.table.now c.batches.table c.add_batch.new.table c.batches.invariant c.in_ok-items.ensures.batch c.in-More.is (rw (is_added, c.deref.ensures.value) at c.in_ok-add_batch.ensures)

pub batches-smaller : goal.batches-smaller
batches-smaller c =
    batch_fewer (inputs_left c.batches.inputs) (inputs_left c.next_batch.new.inputs) c.in_ok-items.field-0 c.in_ok-items.ensures.batch c.in-More.is

pub returns-in_err-add_batch : goal.returns-in_err-add_batch
returns-in_err-add_batch c =
    let go = outputs c.args.statements.now in
    let p = err_from_is_err_and c.from_residual-in_err-add_batch.result c.from_residual-in_err-add_batch.ensures.1 in
    rw (p.1, p.2)
    (batch_refused HaveSums go (through go (inputs_left c.args.inputs.now)) (inputs_left c.batches.inputs) (inputs_left c.next_batch.new.inputs) c.in_ok-items.field-0
    c.args.table.now c.batches.table c.add_batch.new.table c.batches.invariant c.in_ok-items.ensures.batch c.in_err-add_batch.field-0.0 (rw c.deref.ensures.value at c.in_err-add_batch.ensures))

pub returns-in-Done : goal.returns-in-Done
returns-in-Done c =
    let go = outputs c.args.statements.now in
    let is_added : c.in_ok-add_batch.field-0 ≡ true = c.if-not-branch.false in
    batch_done HaveSums go (through go (inputs_left c.args.inputs.now)) (inputs_left c.batches.inputs) (inputs_left c.next_batch.new.inputs) c.in_ok-items.field-0
    c.args.table.now c.batches.table c.add_batch.new.table c.batches.invariant c.in_ok-items.ensures.batch c.in-Done.is (rw (is_added, c.deref.ensures.value) at c.in_ok-add_batch.ensures)

pub returns-in-Failed : goal.returns-in-Failed
returns-in-Failed c =
    let go = outputs c.args.statements.now in
    let is_added : c.in_ok-add_batch.field-0 ≡ true = c.if-not-branch.false in
    rw c.from.ensures
    (batch_failed HaveSums go (through go (inputs_left c.args.inputs.now)) (inputs_left c.batches.inputs) (inputs_left c.next_batch.new.inputs) c.in_ok-items.field-0
    c.args.table.now c.batches.table c.add_batch.new.table c.batches.invariant c.in_ok-items.ensures.batch c.in-Failed.error c.in-Failed.is (rw (is_added, c.deref.ensures.value) at c.in_ok-add_batch.ensures))
