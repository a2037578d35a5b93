use Rattle.form_flow.specs.Left.{limits_of}
use Rattle.form_flow.specs.Statements.{action}
use Rattle.form_flow.proofs.Ahead.{inside_nears, outside_nears}
use Rattle.form_flow.proofs.Waiting.{left_exhausted, left_inside, left_outside}
use Rattle.std.proofs.Common.{refl}
use Rattle.form_flow.proofs.descent.Descent.leave.Goals as goal

pub returns-in-Inside-clause-steps : goal.returns-in-Inside-clause-steps
returns-in-Inside-clause-steps c =
    let d = c.args.self.now in
    (left_inside d c.leave.new.self c.args.item (c.in-Inside.ensures.leaves (action (limits_of d)) c.args.item), c.requires.first)

pub returns-in-Inside-clause-nearer : goal.returns-in-Inside-clause-nearer
returns-in-Inside-clause-nearer c = let d = c.args.self.now in inside_nears d c.leave.new.self (c.in-Inside.ensures.weight (limits_of d) refl)

pub returns-in-Outside-clause-steps : goal.returns-in-Outside-clause-steps
returns-in-Outside-clause-steps c =
    let d = c.args.self.now in
    left_outside d c.leave.new.self c.args.item c.requires.first (c.in-Outside.ensures.leaves (action (limits_of d)) c.args.item)

pub returns-in-Outside-clause-nearer : goal.returns-in-Outside-clause-nearer
returns-in-Outside-clause-nearer c = outside_nears c.args.self.now c.leave.new.self c.requires.first

pub returns-in-Exhausted-clause-steps : goal.returns-in-Exhausted-clause-steps
returns-in-Exhausted-clause-steps c =
    let d = c.args.self.now in
    left_exhausted d c.args.item (c.in-Exhausted.ensures.leaves (action (limits_of d)) c.args.item)
