use Rattle.std.proofs.Common.{Some, None, false, refl, ap, ◌∙◌, arith}
use Rattle.form_flow.specs.Nearing.{two_to}
use Rattle.form_flow.specs.Statements.{action}
use Rattle.form_flow.proofs.Ahead.{none_ahead}
use Rattle.form_flow.proofs.Waiting.{first_left}
use Rattle.form_flow.proofs.descent.Descent.new.Goals as goal

pub returns-clause-left : goal.returns-clause-left
returns-clause-left c =
    first_left (record { compiled = c.args.compiled; first = Some c.args.item; path = c.new-path.result; frames = c.new-frames.result; end = None; has_acted = false })
    c.args.item refl refl refl c.new-frames.ensures.items
    ∙ c.new-path.ensures.begins (action c.args.compiled.now.limits) c.args.item

pub returns-clause-ahead : goal.returns-clause-ahead
returns-clause-ahead c =
    let at = c.args.compiled.now.limits in
    let way = ap two_to (c.new-path.ensures.weight at) in
    let none = none_ahead at c.new-frames.result.items c.new-frames.ensures.items in
    omega (arith, way, none)
