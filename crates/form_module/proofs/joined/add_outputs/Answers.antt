use Rattle.std.proofs.Common.{◌≡◌, true}
use Rattle.std.proofs.lemmas.Result.{err_from_is_err_and}
use Rattle.form_flow.specs.Left.{outputs_left}
use Rattle.form_gathered.specs.Joined.{HaveSums}
use Rattle.form_module.proofs.Taken.{all_taken, fewer, left_refused, taken_none, taken_term}
use Rattle.form_module.proofs.joined.add_outputs.Goals as goal

pub loop-item-init : goal.loop-item-init
loop-item-init c = taken_none HaveSums (outputs_left c.args.outputs.now) c.args.table.now

pub loop-item-preserved : goal.loop-item-preserved
loop-item-preserved c =
    let is_added : c.in_ok-add_term.field-0 ≡ true = c.if-not-branch.false in
    taken_term HaveSums (outputs_left c.args.outputs.now) c.args.table.now (outputs_left c.loop-item.outputs) c.loop-item.table c.loop-item.invariant
    (outputs_left c.next.new.self) c.add_term.new.table c.in-Some.item (rw c.in-Some.is at c.in_ok-item.ensures) (rw is_added at c.in_ok-add_term.ensures)

pub loop-item-smaller : goal.loop-item-smaller
loop-item-smaller c =
    fewer (outputs_left c.loop-item.outputs) (outputs_left c.next.new.self) c.in-Some.item (rw c.in-Some.is at c.in_ok-item.ensures)

pub returns-in_err-item : goal.returns-in_err-item
returns-in_err-item c =
    let p = err_from_is_err_and c.from_residual.result c.from_residual.ensures.1 in
    rw (p.1, p.2)
    (left_refused HaveSums (outputs_left c.args.outputs.now) c.args.table.now (outputs_left c.loop-item.outputs) c.loop-item.table c.loop-item.invariant
    (outputs_left c.next.new.self) c.in_err-item.field-0.0 c.in_err-item.ensures)

pub returns : goal.returns
returns c =
    let ends = rw c.in_default.is at c.in_ok-item.ensures in
    all_taken HaveSums (outputs_left c.args.outputs.now) c.args.table.now (outputs_left c.loop-item.outputs) c.loop-item.table c.loop-item.invariant ends.0
