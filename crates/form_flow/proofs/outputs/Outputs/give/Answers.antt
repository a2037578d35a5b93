use Rattle.std.proofs.Common.{arith}
use Rattle.form_flow.specs.Left.{left, outputs_left}
use Rattle.form_flow.specs.Outcome.{listing_of}
use Rattle.form_flow.proofs.Giving.{given_over, given_taken}
use Rattle.form_flow.proofs.outputs.Outputs.give.Goals as goal

pub returns-then-self : goal.returns-then-self
returns-then-self c =
    let o = c.args.self.now in
    given_over o.limit o.given c.args.item (listing_of (left o.descent)) c.if-self.true

pub returns : goal.returns
unfolding outputs_left
returns c =
    let o = c.args.self.now in
    given_taken o.limit o.given c.args.item (listing_of (left o.descent)) (omega (arith, c.if-self.false))
