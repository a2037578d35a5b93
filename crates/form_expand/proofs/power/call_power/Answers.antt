use Rattle.form_expand.specs.Factors.{IsShortPower}
use Rattle.form_expand.specs.Kept.{listing}
use Rattle.form_expand.proofs.Filling.{none_short, not_short, power_once}
use Rattle.form_expand.proofs.power.call_power.Goals as goal

pub returns-then-power-eq1 : goal.returns-then-power-eq1
returns-then-power-eq1 c = power_once c.args.limit (listing c.args.whole) c.args.power c.if-power-eq1.true

pub returns : goal.returns
returns c =
    let max = c.args.limit in
    let short = rw c.from.ensures at c.in_ok-made.ensures.short in
    not_short max c.args.whole c.args.power c.requires (none_short c.in_ok-made.field-0 (IsShortPower max c.args.whole c.args.power) c.in-None.is short)
