use Rattle.std.proofs.Common.{◌∙◌, ap, arith}
use Rattle.std.specs.Int.{w128}
use Rattle.std.proofs.lemmas.Int.{to_z_pos}
use Rattle.form_frac.specs.Fraction.{whole}
use Rattle.form_expand.proofs.NumberLists.{number_is_whole}
use Rattle.form_expand.proofs.number.number_once.Goals as goal

pub returns : goal.returns
returns c =
    let value = c.args.value in
    let same = to_z_pos w128 value (omega (arith, c.if-value-gt-LARGEST.false)) in
    (number_is_whole value c.whole-number.result (omega (arith, c.if-value-eq0.false)) c.if-value-gt-LARGEST.false (c.whole-number.ensures ∙ ap whole same) c.numerator.ensures.lowest, c.numerator.ensures.lowest)
