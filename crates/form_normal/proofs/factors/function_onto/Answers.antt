use Rattle.std.proofs.Common.{◌≡◌}
use Rattle.form_base.specs.declared.cause.Cause.TheVariants.{Overflow}
use Rattle.form_frac.specs.Fraction.{multiply}
use Rattle.form_normal.proofs.Functions.{put_at, function_put_lawful, function_times, function_overflows}
use Rattle.form_normal.proofs.Parts.{some_from, none_from}
use Rattle.form_normal.proofs.factors.function_onto.Goals as goal

pub returns-in_default-clause-refused : goal.returns-in_default-clause-refused
returns-in_default-clause-refused c = λ cause e.
    let m = c.args.front in
    let same : Overflow ≡ cause = cc in
    rw (← same)
    (function_overflows m c.args.call.now c.laws.ensures.lowest c.laws.ensures.lawful c.pieces.ensures.lawful c.requires c.args.number
    (none_from (multiply m.coefficient c.args.number) _ c.in_default.field-0 c.in_default.ensures))

pub with_function-requires-clause-lawful : goal.with_function-requires-clause-lawful
with_function-requires-clause-lawful c =
    let t = c.args.front.term in
    rw c.in_ok-own.ensures.cases
    (function_put_lawful t c.args.call.now c.laws.ensures.lawful c.pieces.ensures.lawful c.requires c.place_of-place.result
    (put_at t c.args.call.now c.functions.result.now c.place_of-place.result c.laws.ensures.lawful c.functions.ensures c.place_of-place.ensures.place))

pub returns-clause-ok : goal.returns-clause-ok
returns-clause-ok c =
    let m = c.args.front in
    rw (c.in_ok-term.ensures, c.in_ok-own.ensures.cases)
    (function_times m c.args.call.now c.laws.ensures.lowest c.laws.ensures.lawful c.pieces.ensures.lawful c.requires c.args.number c.in-Ok.coefficient c.place_of-place.result
    (some_from (multiply m.coefficient c.args.number) _ c.in-Ok.coefficient c.in-Ok.ensures)
    (put_at m.term c.args.call.now c.functions.result.now c.place_of-place.result c.laws.ensures.lawful c.functions.ensures c.place_of-place.ensures.place))
