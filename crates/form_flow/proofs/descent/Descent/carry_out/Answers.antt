use Rattle.form_flow.specs.Left.{limits_of}
use Rattle.form_flow.specs.Statements.{leaf}
use Rattle.form_flow.specs.Weight.{most_made}
use Rattle.form_flow.proofs.Ahead.{spends_waits}
use Rattle.form_flow.proofs.Most.{effect_most, leaf_most}
use Rattle.form_flow.proofs.Waiting.{err_moves}
use Rattle.form_flow.proofs.descent.Descent.carry_out.Goals as goal

pub returns-in-Ok-clause-moves : goal.returns-in-Ok-clause-moves
returns-in-Ok-clause-moves c = c.take.ensures.moves (leaf (limits_of c.args.self.now) c.args.leaf.now c.args.item) c.in-Ok.ensures

pub returns-in-Ok-clause-ahead : goal.returns-in-Ok-clause-ahead
returns-in-Ok-clause-ahead c =
    let d = c.args.self.now in
    let at = limits_of d in
    let n = most_made at c.args.leaf.now in
    spends_waits c.take.result n d c.take.new.self
    (c.take.ensures.ahead n (effect_most c.in-Ok.effect (leaf at c.args.leaf.now c.args.item) n c.in-Ok.ensures (leaf_most at c.args.leaf.now c.args.item)))

pub returns-in-Err-clause-moves : goal.returns-in-Err-clause-moves
returns-in-Err-clause-moves c =
    let d = c.args.self.now in
    err_moves c.in-Err.error (leaf (limits_of d) c.args.leaf.now c.args.item) d c.in-Err.ensures
