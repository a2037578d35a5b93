use Rattle.form_normal.proofs.Functions.{put_at, function_put_lawful, function_made, function_term, function_stands}
use Rattle.form_normal.proofs.factors.times_function.Goals as goal

pub with_function-requires-clause-lawful : goal.with_function-requires-clause-lawful
with_function-requires-clause-lawful c =
    let t = c.args.front.term in
    let room = c.requires in
    function_put_lawful t c.args.call c.laws.ensures.lawful c.pieces.ensures.lawful room c.place_of-place.result
    (put_at t c.args.call c.functions.result.now c.place_of-place.result c.laws.ensures.lawful c.functions.ensures c.place_of-place.ensures.place)

pub returns-clause-product : goal.returns-clause-product
returns-clause-product c =
    let m = c.args.front in
    let room = c.requires in
    rw c.in_ok-term.ensures
    (function_made m c.args.call c.laws.ensures.lowest c.laws.ensures.lawful c.pieces.ensures.lawful room c.place_of-place.result
    (put_at m.term c.args.call c.functions.result.now c.place_of-place.result c.laws.ensures.lawful c.functions.ensures c.place_of-place.ensures.place))

pub returns-clause-alone : goal.returns-clause-alone
returns-clause-alone c =
    let room = c.requires in
    function_stands c.args.call (function_term c.args.front.term c.args.call c.laws.ensures.lawful c.pieces.ensures.lawful room)
