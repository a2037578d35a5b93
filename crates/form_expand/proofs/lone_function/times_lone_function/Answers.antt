use Rattle.form_expand.proofs.LoneFunctions.{lone_times}
use Rattle.form_expand.proofs.lone_function.times_lone_function.Goals as goal

pub returns : goal.returns
returns c =
    let found = rw c.in-Some.is at c.in_ok-call.ensures in
    lone_times c.args.limit c.args.names.now c.args.pieces.now c.args.left c.in_ok-made.made c.in-Some.call found.list found.some c.in_ok-made.ensures.product c.in_ok-made.ensures.alone
