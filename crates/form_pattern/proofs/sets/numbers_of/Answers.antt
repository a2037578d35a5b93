use Rattle.std.proofs.Common.{SFits, rules, arith}
use Rattle.std.specs.Int.{w128}
use Rattle.std.proofs.lemmas.Int.{to_z-of_z}
use Rattle.std.proofs.lemmas.Result.{err_from_is_err_and}
use Rattle.form_base.specs.declared.cause.Cause.TheVariants.{NumberRange}
use Rattle.form_right_side.specs.declared.error.CheckError.TheVariants.{Refused}
use Rattle.form_right_side.specs.Refusal.{listed}
use Rattle.form_pattern.specs.Sets.{number_element}
use Rattle.form_right_side.proofs.Loops.{listed-start, listed-next, listed-refused, listed-end}
use Rattle.form_pattern.proofs.sets.numbers_of.Goals as goal

pub loop-number-init : goal.loop-number-init
loop-number-init c = rw c.in_ok-numbers.ensures.items (listed-start number_element c.args.list.now)

pub loop-number-preserved : goal.loop-number-preserved
loop-number-preserved c =
    let list = c.args.list.now in
    let z = c.in_ok-number_element.field-0 in
    let fits : SFits w128 z = search rules in
    let items = rw (to_z-of_z w128 z fits) at c.in_ok-push.ensures.items in
    rw items (listed-next number_element list c.loop-number.numbers.items z c.loop-number.number-index c.number-item.result (listed number_element list) (omega arith) c.number-item.is c.loop-number.invariant c.in_ok-number_element.ensures)

pub returns-in_err-number_element : goal.returns-in_err-number_element
returns-in_err-number_element c =
    let list = c.args.list.now in
    let p = err_from_is_err_and c.from_residual-in_err-number_element.result c.from_residual-in_err-number_element.ensures.1 in
    rw (p.1, p.2) (listed-refused number_element list c.loop-number.numbers.items c.loop-number.number-index c.number-item.result (listed number_element list) (Refused NumberRange c.in_err-number_element.field-0.0.spot) (omega arith) c.number-item.is c.loop-number.invariant c.in_err-number_element.ensures)

pub returns : goal.returns
returns c =
    listed-end number_element c.args.list.now c.loop-number.numbers.items c.loop-number.number-index (listed number_element c.args.list.now) (omega arith) c.loop-number.invariant
