use Rattle.std.proofs.Common.{true, false, not, sym, ap, ◌∙◌}
use Rattle.form_match.proofs.Wholly.{powers_here, powers_done}
use Rattle.form_match.proofs.whole.are_powers_left.Goals as goal

pub returns-then-is_power_left : goal.returns-then-is_power_left
returns-then-is_power_left c =
    sym (ap not (c.loop-power.invariant ∙ powers_here c.args.takes.now c.args.powers.now c.loop-power.power-index c.power-item.result true c.loop-power-test.true c.power-item.is c.if-is_power_left.ensures))

pub loop-power-preserved : goal.loop-power-preserved
loop-power-preserved c =
    c.loop-power.invariant ∙ powers_here c.args.takes.now c.args.powers.now c.loop-power.power-index c.power-item.result false c.loop-power-test.true c.power-item.is c.if-is_power_left.ensures

pub returns : goal.returns
returns c = sym (ap not (c.loop-power.invariant ∙ powers_done c.args.takes.now c.args.powers.now c.loop-power.power-index c.loop-power-test.false))
