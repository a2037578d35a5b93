use Rattle.std.proofs.Common.{subst, sym}
use Rattle.std.proofs.lemmas.Result.{err_from_is_err_and}
use Rattle.std.specs.Vec.Iter.{into_iter_items}
use Rattle.form_collect.specs.Collector.{IsCollectionOf}
use Rattle.form_flow.specs.Statements.{outputs}
use Rattle.form_module.specs.Module.{through}
use Rattle.form_module.proofs.Taken.{IsTaken, all_of, all_taken, list_refused, nothing_left, taken_list, taken_none, through_next, through_none}
use Rattle.form_module.proofs.result.add_each.Goals as goal

pub loop-item-init : goal.loop-item-init
loop-item-init c =
    let go = outputs c.args.statements.now in
    let start = through go (all_of c.args.items.items) in
    subst (λ ms. IsTaken IsCollectionOf start (through go (all_of ms)) c.args.collector.now c.args.collector.now) (sym c.into_iter-item-iterator.ensures.into_iter_gives.0)
    (taken_none IsCollectionOf start c.args.collector.now)

pub loop-item-preserved : goal.loop-item-preserved
loop-item-preserved c =
    let go = outputs c.args.statements.now in
    let old = into_iter_items c.loop-item.item-iterator in
    let new = into_iter_items c.next.new.self in
    taken_list IsCollectionOf (through go (all_of c.args.items.items)) c.args.collector.now (through go (all_of old)) c.loop-item.collector c.loop-item.invariant
    (go c.in-Some.item) (through go (all_of new)) c.add.new.collector (through_next go old new c.in-Some.item c.in-Some.ensures.steps.0) c.in_ok-add.ensures

pub returns-in_err-add : goal.returns-in_err-add
returns-in_err-add c =
    let go = outputs c.args.statements.now in
    let p = err_from_is_err_and c.from_residual.result c.from_residual.ensures.1 in
    let old = into_iter_items c.loop-item.item-iterator in
    let new = into_iter_items c.next.new.self in
    rw (p.1, p.2)
    (list_refused IsCollectionOf (through go (all_of c.args.items.items)) c.args.collector.now (through go (all_of old)) c.loop-item.collector c.loop-item.invariant
    (go c.in-Some.item) (through go (all_of new)) c.in_err-add.field-0.0 (through_next go old new c.in-Some.item c.in-Some.ensures.steps.0) c.in_err-add.ensures)

pub returns : goal.returns
returns c =
    let go = outputs c.args.statements.now in
    let left = into_iter_items c.loop-item.item-iterator in
    all_taken IsCollectionOf (through go (all_of c.args.items.items)) c.args.collector.now (through go (all_of left)) c.loop-item.collector
    c.loop-item.invariant (through_none go left (nothing_left c.loop-item.item-iterator c.in-None.ensures.steps.0))
