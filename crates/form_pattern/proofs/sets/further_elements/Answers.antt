use Rattle.std.proofs.Common.{arith}
use Rattle.std.proofs.lemmas.Result.{err_from_is_err_and}
use Rattle.form_right_side.specs.Refusal.{listed}
use Rattle.form_pattern.specs.Sets.{further_element}
use Rattle.form_right_side.proofs.Loops.{behind, listed-next, listed-refused, listed-end}
use Rattle.form_pattern.proofs.sets.further_elements.Goals as goal

pub loop-spelled-preserved : goal.loop-spelled-preserved
loop-spelled-preserved c =
    let give = further_element c.args.names.now c.args.kind in
    rw c.in_ok-push.ensures.items (listed-next give c.args.list.now c.loop-spelled.ids.items c.in_ok-further_element.field-0 c.loop-spelled.spelled-index c.spelled-item.result (behind c.args.ids.items (listed give c.args.list.now)) (omega arith) c.spelled-item.is c.loop-spelled.invariant c.in_ok-further_element.ensures)

pub returns-in_err-further_element : goal.returns-in_err-further_element
returns-in_err-further_element c =
    let give = further_element c.args.names.now c.args.kind in
    let p = err_from_is_err_and c.from_residual.result c.from_residual.ensures.1 in
    rw (p.1, p.2) (listed-refused give c.args.list.now c.loop-spelled.ids.items c.loop-spelled.spelled-index c.spelled-item.result (behind c.args.ids.items (listed give c.args.list.now)) c.in_err-further_element.field-0.0 (omega arith) c.spelled-item.is c.loop-spelled.invariant c.in_err-further_element.ensures)

pub returns : goal.returns
returns c =
    let give = further_element c.args.names.now c.args.kind in
    listed-end give c.args.list.now c.loop-spelled.ids.items c.loop-spelled.spelled-index (behind c.args.ids.items (listed give c.args.list.now)) (omega arith) c.loop-spelled.invariant
