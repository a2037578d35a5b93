use Rattle.std.proofs.Common.{ap, ◌∙◌}
use Rattle.form_collect.specs.Keys.{digit}
use Rattle.form_collect.proofs.Digits.{absent_at}
use Rattle.form_collect.proofs.sorting.digit_at.Goals as goal

pub returns : goal.returns
returns c =
    ap digit (absent_at c.args.symbol c.args.powers.now c.in-Some.power.now c.in-Some.field-0-1.now c.in-Some.ensures.cases.0 c.requires
    (λ e. c.if-from-symbol.false (c.from.ensures ∙ c.position.ensures ∙ e)))
