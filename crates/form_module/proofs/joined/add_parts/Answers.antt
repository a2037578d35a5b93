use Rattle.std.proofs.Common.{◌≡◌, ◌++◌, ◌∙◌, true, length, sym, arith}
use Rattle.std.proofs.lemmas.Bool.{eqb-true, eqb-false}
use Rattle.std.proofs.lemmas.List.{nil_from_length, take-append-drop}
use Rattle.std.proofs.lemmas.Result.{err_from_is_err_and}
use Rattle.form_flow.specs.Statements.{outputs}
use Rattle.form_gathered.specs.Joined.{HaveSums}
use Rattle.form_module.specs.Module.{through}
use Rattle.form_module.proofs.Taken.{all_of, all_taken, list_refused, taken_list, taken_none, through_none, through_parts}
use Rattle.form_module.proofs.joined.add_parts.Goals as goal

pub loop-rest-init : goal.loop-rest-init
loop-rest-init c = taken_none HaveSums (through (outputs c.args.statements.now) (all_of c.args.items.now)) c.args.table.now

pub split_at-requires : goal.split_at-requires
split_at-requires c = omega (arith, c.min.ensures)

pub loop-rest-preserved : goal.loop-rest-preserved
loop-rest-preserved c =
    let go = outputs c.args.statements.now in
    let rest = c.loop-rest.rest.now in
    let part = c.split_at.result.0.now in
    let behind = c.split_at.result.1.now in
    let whole : part ++ behind ≡ rest = rw (c.split_at.ensures.front, c.split_at.ensures.back) (take-append-drop c.min.result rest) in
    let is_added : c.in_ok-add_part.field-0 ≡ true = c.if-not-branch.false in
    taken_list HaveSums (through go (all_of c.args.items.now)) c.args.table.now (through go (all_of rest)) c.loop-rest.table c.loop-rest.invariant
    (through go (all_of part)) (through go (all_of behind)) c.add_part.new.table (through_parts go rest part behind whole) (rw is_added at c.in_ok-add_part.ensures)

pub loop-rest-smaller : goal.loop-rest-smaller
loop-rest-smaller c =
    let some = eqb-false (length c.loop-rest.rest.now) 0 (sym c.is_empty.ensures ∙ c.loop-rest-test.true) in
    omega (arith, some, c.split_at.ensures.back_len, c.min.ensures, c.size.ensures)

pub returns-in_err-add_part : goal.returns-in_err-add_part
returns-in_err-add_part c =
    let go = outputs c.args.statements.now in
    let rest = c.loop-rest.rest.now in
    let part = c.split_at.result.0.now in
    let behind = c.split_at.result.1.now in
    let whole : part ++ behind ≡ rest = rw (c.split_at.ensures.front, c.split_at.ensures.back) (take-append-drop c.min.result rest) in
    let p = err_from_is_err_and c.from_residual.result c.from_residual.ensures.1 in
    rw (p.1, p.2)
    (list_refused HaveSums (through go (all_of c.args.items.now)) c.args.table.now (through go (all_of rest)) c.loop-rest.table c.loop-rest.invariant
    (through go (all_of part)) (through go (all_of behind)) c.in_err-add_part.field-0.0 (through_parts go rest part behind whole) c.in_err-add_part.ensures)

pub returns : goal.returns
returns c =
    let go = outputs c.args.statements.now in
    let rest = c.loop-rest.rest.now in
    all_taken HaveSums (through go (all_of c.args.items.now)) c.args.table.now (through go (all_of rest)) c.loop-rest.table c.loop-rest.invariant
    (through_none go rest (nil_from_length rest (eqb-true (length rest) 0 (sym c.is_empty.ensures ∙ c.loop-rest-test.false))))
