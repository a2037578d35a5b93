use Rattle.std.proofs.Common.{◌==◌, true, false, ℤ, sym, ap, ◌∙◌}
use Rattle.std.specs.Prelude.{nat_abs}
use Rattle.form_match.proofs.Exponents.{exponent_here, exponent_end}
use Rattle.form_match.proofs.choices.is_absent.Goals as goal

pub returns-then-is_of : goal.returns-then-is_of
returns-then-is_of c =
    c.is_zero.ensures
    ∙ sym (ap (λ (e : ℤ). nat_abs e == 0) (c.loop-power.invariant ∙ exponent_here c.args.powers.now c.args.symbol c.loop-power.power-index c.power-item.result true c.loop-power-test.true c.power-item.is c.if-is_of.ensures))

pub loop-power-preserved : goal.loop-power-preserved
loop-power-preserved c =
    c.loop-power.invariant ∙ exponent_here c.args.powers.now c.args.symbol c.loop-power.power-index c.power-item.result false c.loop-power-test.true c.power-item.is c.if-is_of.ensures

pub returns : goal.returns
returns c = sym (ap (λ (e : ℤ). nat_abs e == 0) (c.loop-power.invariant ∙ exponent_end c.args.powers.now c.args.symbol c.loop-power.power-index c.loop-power-test.false))
