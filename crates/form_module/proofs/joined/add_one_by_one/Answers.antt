use Rattle.std.proofs.Common.{◌≡◌, ◌+◌, true, drop, rules, arith}
use Rattle.std.proofs.lemmas.List.{drop_all}
use Rattle.std.proofs.lemmas.Result.{err_from_is_err_and}
use Rattle.form_flow.specs.Statements.{outputs}
use Rattle.form_gathered.specs.Joined.{HaveSums}
use Rattle.form_module.specs.Module.{through}
use Rattle.form_module.proofs.Taken.{all_of, all_taken, list_refused, taken_list, taken_none, through_at, through_none}
use Rattle.form_module.proofs.joined.add_one_by_one.Goals as goal

pub loop-item-init : goal.loop-item-init
loop-item-init c = taken_none HaveSums (through (outputs c.args.statements.now) (all_of c.args.items.now)) c.args.table.now

pub loop-item-preserved : goal.loop-item-preserved
loop-item-preserved c =
    let go = outputs c.args.statements.now in
    let ms = c.args.items.now in
    let i = c.loop-item.item-index in
    let m = c.item-item.result in
    let copied : c.in_ok-clone.field-0 ≡ m = search rules in
    let is_added : c.in_ok-add_item.field-0 ≡ true = c.if-not-branch.false in
    taken_list HaveSums (through go (all_of ms)) c.args.table.now (through go (all_of (drop i ms))) c.loop-item.table c.loop-item.invariant
    (go m) (through go (all_of (drop (i + 1) ms))) c.add_item.new.table (through_at go ms i m c.loop-item-test.true c.item-item.is) (rw (is_added, copied) at c.in_ok-add_item.ensures)

pub returns-in_err-add_item : goal.returns-in_err-add_item
returns-in_err-add_item c =
    let go = outputs c.args.statements.now in
    let ms = c.args.items.now in
    let i = c.loop-item.item-index in
    let m = c.item-item.result in
    let copied : c.in_ok-clone.field-0 ≡ m = search rules in
    let p = err_from_is_err_and c.from_residual-in_err-add_item.result c.from_residual-in_err-add_item.ensures.1 in
    rw (p.1, p.2)
    (list_refused HaveSums (through go (all_of ms)) c.args.table.now (through go (all_of (drop i ms))) c.loop-item.table c.loop-item.invariant
    (go m) (through go (all_of (drop (i + 1) ms))) c.in_err-add_item.field-0.0 (through_at go ms i m c.loop-item-test.true c.item-item.is) (rw copied at c.in_err-add_item.ensures))

pub returns : goal.returns
returns c =
    let go = outputs c.args.statements.now in
    let ms = c.args.items.now in
    let left = drop c.loop-item.item-index ms in
    all_taken HaveSums (through go (all_of ms)) c.args.table.now (through go (all_of left)) c.loop-item.table c.loop-item.invariant
    (through_none go left (drop_all c.loop-item.item-index ms (omega (arith, c.loop-item-test.false))))
