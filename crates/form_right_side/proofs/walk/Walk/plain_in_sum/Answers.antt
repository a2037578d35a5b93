use Rattle.form_right_side.proofs.ShortWays.{begins-call}
use Rattle.form_right_side.proofs.walk.Walk.plain_in_sum.Goals as goal

pub returns-in-Call-clause-plain : goal.returns-in-Call-clause-plain
returns-in-Call-clause-plain c =
    rw c.in-Call.is (begins-call c.plain_call.result c.args.names.now c.args.known.now c.args.self.now c.plain_call.new.self c.in-Call.link c.in-Call.named c.args.rest.now c.plain_call.ensures.plain)
