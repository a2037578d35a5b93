use Rattle.std.proofs.Common.{◌≡◌, sym, ap, ◌∙◌}
use Rattle.std.specs.Prelude.{Some}
use Rattle.form_frac.specs.Fraction.{whole}
use Rattle.form_expand.specs.Numbers.{raised}
use Rattle.form_expand.proofs.Powered.{one_even, one_odd}
use Rattle.form_expand.proofs.number.one_raised.Goals as goal

pub returns-then-power-eq0 : goal.returns-then-power-eq0
returns-then-power-eq0 c =
    let n = c.args.base.numerator in
    let base : c.args.base ≡ whole n = ap (λ d. record { numerator = n; denominator = d }) c.requires.whole in
    ap (λ f. raised f c.args.power) base ∙ one_even n c.requires.one c.args.power c.requires.some c.if-power-eq0.true ∙ ap Some (sym c.one.ensures)

pub returns-else-power-eq0 : goal.returns-else-power-eq0
returns-else-power-eq0 c =
    let n = c.args.base.numerator in
    let base : c.args.base ≡ whole n = ap (λ d. record { numerator = n; denominator = d }) c.requires.whole in
    ap (λ f. raised f c.args.power) base ∙ one_odd n c.requires.one c.args.power c.requires.some c.if-power-eq0.false ∙ ap Some (sym base)
