use Rattle.std.proofs.Common.{rules, to_z-of_z, SFits, Some, None, sym, ◌∙◌, ap}
use Rattle.std.specs.Int.{w128}
use Rattle.form_frac.proofs.Fractions.{whole_sum_is}
use Rattle.form_frac.proofs.frac.Frac.whole_sum.Goals as goal

pub returns-in_err-numerator : goal.returns-in_err-numerator
returns-in_err-numerator c =
    let left : SFits w128 c.numerator.result = search rules in
    let right : SFits w128 c.numerator-2.result = search rules in
    let sum = simp to_z-of_z at c.sum.ensures in
    c.from_residual.ensures ∙ whole_sum_is c.args.self c.args.other _ _ c.numerator.ensures.value c.numerator-2.ensures.value c.numerator.ensures.lowest c.numerator-2.ensures.lowest
    c.requires.left c.requires.right None (sym c.in_err-numerator.was ∙ sum)

pub returns : goal.returns
returns c =
    let left : SFits w128 c.numerator.result = search rules in
    let right : SFits w128 c.numerator-2.result = search rules in
    let found : SFits w128 c.in_ok-numerator.numerator = search rules in
    let sum = simp to_z-of_z at c.sum.ensures in
    let number = simp to_z-of_z at c.whole.ensures in
    ap Some number ∙ whole_sum_is c.args.self c.args.other _ _ c.numerator.ensures.value c.numerator-2.ensures.value c.numerator.ensures.lowest c.numerator-2.ensures.lowest
    c.requires.left c.requires.right (Some c.in_ok-numerator.numerator) (sym c.in_ok-numerator.was ∙ sum)
