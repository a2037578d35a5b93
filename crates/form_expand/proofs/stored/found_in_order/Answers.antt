use Rattle.std.proofs.Common.{true, false, sym, ◌∙◌}
use Rattle.form_expand.proofs.Lookups.{looked_up, looked_through}
use Rattle.form_expand.proofs.stored.found_in_order.Goals as goal

pub returns-then-eq : goal.returns-then-eq
returns-then-eq c =
    c.as_slice.ensures ∙ sym (c.loop-one.invariant ∙ looked_up c.args.stored.now c.args.expression c.loop-one.one-index c.one-item.result true c.loop-one-test.true c.one-item.is c.if-eq.ensures)

pub loop-one-preserved : goal.loop-one-preserved
loop-one-preserved c =
    c.loop-one.invariant ∙ looked_up c.args.stored.now c.args.expression c.loop-one.one-index c.one-item.result false c.loop-one-test.true c.one-item.is c.if-eq.ensures

pub returns : goal.returns
returns c = sym (c.loop-one.invariant ∙ looked_through c.args.stored.now c.args.expression c.loop-one.one-index c.loop-one-test.false)
