use Rattle.std.proofs.Common.{◌∙◌, ap, sym, arith, w32}
use Rattle.std.proofs.lemmas.Int.{to_z-of_z}
use Rattle.form_normal.specs.Product.{number_alone}
use Rattle.form_expand.specs.Listing.{single}
use Rattle.form_expand.proofs.NumberLists.{number_is_alone, number_of_none, ok_from, some_from}
use Rattle.form_expand.proofs.number.number_raised.Goals as goal

pub returns-then-size-eq0 : goal.returns-then-size-eq0
returns-then-size-eq0 c =
    let size = rw (to_z-of_z w32 c.args.power c.ranges.power) at c.unsigned_abs-size.ensures.value in
    (number_of_none c.args.value c.args.power (omega (arith, size)) ∙ ap (λ q. single (number_alone q)) (sym c.one.ensures.one), c.one.ensures.lowest)

pub returns : goal.returns
returns c =
    let size = rw (to_z-of_z w32 c.args.power c.ranges.power) at c.unsigned_abs-size.ensures.value in
    let made = rw (to_z-of_z w32 c.args.power c.ranges.power) at c.factor_of.ensures in
    let base = ok_from c.factor_of.result c.in_ok-base.base c.in_ok-base.ensures.value in
    let number = some_from _ _ c.in_ok-number.number (sym (ok_from c.raised.result c.in_ok-number.number c.in_ok-number.ensures.value) ∙ c.raised.ensures) in
    (number_is_alone c.args.value c.args.power c.in_ok-base.base c.in_ok-number.number (omega (arith, size)) c.if-value-gt-LARGEST.false (sym base ∙ made) (sym c.if-is_zero.ensures) (rw size at number), c.numerator.ensures.lowest)
