-- The product of the coefficients and that of the terms make up the product (`Parts`).
use Rattle.std.proofs.Common.{◌≡◌, Err, ap}
use Rattle.form_base.specs.declared.cause.Cause.TheVariants.{Overflow}
use Rattle.form_frac.specs.Fraction.{multiply}
use Rattle.form_normal.specs.declared.products.ProductError.TheVariants.{Refused}
use Rattle.form_normal.proofs.Others.{plain_zeros, plain_turn}
use Rattle.form_normal.proofs.Parts.{some_from, none_from, handed_on, product_overflows, product_refused, product_made}
use Rattle.form_normal.proofs.factors.plain_onto.Goals as goal

pub returns-in_default-clause-refused : goal.returns-in_default-clause-refused
returns-in_default-clause-refused c = λ cause e.
    let l = c.args.front in
    let r = c.args.factor.now in
    let same : Overflow ≡ cause = cc in
    rw (← same) (product_overflows l r (plain_zeros l.term r.term c.requires.front c.requires.factor) (none_from (multiply l.coefficient r.coefficient) _ c.in_default.field-0 c.in_default.ensures))

pub returns-in_err-term-clause-refused : goal.returns-in_err-term-clause-refused
returns-in_err-term-clause-refused c = λ cause e.
    let l = c.args.front in
    let r = c.args.factor.now in
    let refused = handed_on c.from_residual.result c.in_err-term.field-0.0 (Refused cause) c.from_residual.ensures.1 e in
    product_refused l r c.in-Ok.coefficient cause (plain_zeros l.term r.term c.requires.front c.requires.factor) (some_from (multiply l.coefficient r.coefficient) _ c.in-Ok.coefficient c.in-Ok.ensures) (c.in_err-term.ensures.refused cause (ap Err refused))

pub returns-clause-ok : goal.returns-clause-ok
returns-clause-ok c =
    let l = c.args.front in
    let r = c.args.factor.now in
    product_made l r c.in-Ok.coefficient c.in-Ok.coefficient c.in_ok-term.term (plain_zeros l.term r.term c.requires.front c.requires.factor) (some_from (multiply l.coefficient r.coefficient) _ c.in-Ok.coefficient c.in-Ok.ensures) (plain_turn l.term r.term c.in-Ok.coefficient c.requires.front) c.in_ok-term.ensures.ok
