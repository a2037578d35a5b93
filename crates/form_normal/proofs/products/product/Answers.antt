-- The product of the coefficients and that of the terms make up the product (`Parts`).
use Rattle.std.proofs.Common.{◌≡◌, Bool, Err, ap, sym, ◌∙◌}
use Rattle.form_base.specs.declared.cause.Cause.TheVariants.{Overflow}
use Rattle.form_frac.specs.Fraction.{multiply}
use Rattle.form_normal.specs.declared.products.ProductError.TheVariants.{Refused}
use Rattle.form_normal.specs.Product.{turned}
use Rattle.form_normal.proofs.Parts.{some_from, none_from, handed_on, product_zero, product_overflows, product_refused, product_made}
use Rattle.form_normal.proofs.products.product.Goals as goal

pub returns-then-is_zero_product-clause-ok : goal.returns-then-is_zero_product-clause-ok
returns-then-is_zero_product-clause-ok c = product_zero c.args.left.now c.args.right.now (sym c.if-is_zero_product.ensures)

pub returns-in_default-clause-refused : goal.returns-in_default-clause-refused
returns-in_default-clause-refused c = λ cause e.
    let same : Overflow ≡ cause = cc in
    rw (← same) (product_overflows c.args.left.now c.args.right.now (sym c.if-is_zero_product.ensures) (none_from (multiply c.args.left.now.coefficient c.args.right.now.coefficient) _ c.in_default.field-0 c.in_default.ensures))

pub returns-in_err-term-clause-refused : goal.returns-in_err-term-clause-refused
returns-in_err-term-clause-refused c = λ cause e.
    let refused = handed_on c.from_residual.result c.in_err-term.field-0.0 (Refused cause) c.from_residual.ensures.1 e in
    product_refused c.args.left.now c.args.right.now c.in-Ok.size cause (sym c.if-is_zero_product.ensures) (some_from (multiply c.args.left.now.coefficient c.args.right.now.coefficient) _ c.in-Ok.size c.in-Ok.ensures) (c.in_err-term.ensures.refused cause (ap Err refused))

pub returns-clause-ok : goal.returns-clause-ok
returns-clause-ok c =
    let sign = c.turned-coefficient.ensures ∙ ap (λ (b : Bool). turned b c.in-Ok.size) c.has_square.ensures in
    product_made c.args.left.now c.args.right.now c.in-Ok.size c.turned-coefficient.result c.in_ok-term.term (sym c.if-is_zero_product.ensures) (some_from (multiply c.args.left.now.coefficient c.args.right.now.coefficient) _ c.in-Ok.size c.in-Ok.ensures) sign c.in_ok-term.ensures.ok
