use Rattle.std.proofs.Common.{refl, sym, ◌∙◌, ap}
use Rattle.form_frac.specs.Fraction.{multiply}
use Rattle.std.specs.List.{list_any}
use Rattle.form_normal.specs.Product.{is_fixed, number_alone}
use Rattle.form_normal.proofs.Parts.{some_from, none_from, product_overflows}
use Rattle.form_normal.proofs.Lasting.{number_made, no_zeros_in}
use Rattle.form_normal.proofs.factors.multiply_by_number.Goals as goal

pub returns-in_default : goal.returns-in_default
returns-in_default c =
    let none_fixed = ap (list_any is_fixed) (sym c.deltas.ensures) ∙ sym c.has_fixed.ensures ∙ c.if-has_fixed.false in
    (product_overflows c.args.front.now (number_alone c.args.number) (no_zeros_in c.args.front.now.term.others.deltas none_fixed) (none_from (multiply c.args.front.now.coefficient c.args.number) _ c.in_default.field-0 c.in_default.ensures), refl)

pub returns : goal.returns
returns c =
    let none_fixed = ap (list_any is_fixed) (sym c.deltas.ensures) ∙ sym c.has_fixed.ensures ∙ c.if-has_fixed.false in
    number_made c.args.front.now c.args.number c.in-Ok.coefficient c.laws.ensures.lawful none_fixed (some_from (multiply c.args.front.now.coefficient c.args.number) _ c.in-Ok.coefficient c.in-Ok.ensures)
