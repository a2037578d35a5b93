-- The joined lists, the summed powers and the product of the coefficients are those of one term, whose product is that of all.
use Rattle.std.proofs.Common.{◌≡◌, ◌/◌, Ok, Err, IfOk, Option, ap, sym, subst, ◌∙◌}
use Rattle.std.specs.Prelude.{◌%◌, ◌==◌, Result}
use Rattle.std.proofs.lemmas.List.Elements.{All-from_recursion}
use Rattle.form_base.specs.declared.cause.Cause.{Cause}
use Rattle.form_base.specs.declared.cause.Cause.TheVariants.{Overflow}
use Rattle.form_term.specs.declared.monomial.Monomial.{Monomial}
use Rattle.form_term.specs.Term.{Others}
use Rattle.form_normal.specs.declared.products.ProductError.TheVariants.{Refused}
use Rattle.form_normal.specs.Lists.{dots_product}
use Rattle.form_normal.specs.Product.{are_dots_in_range, turned}
use Rattle.form_normal.specs.Several.{lists_of}
use Rattle.form_normal.proofs.Dots.{IsThere, dots_rise}
use Rattle.form_normal.proofs.Parts.{handed_on}
use Rattle.form_normal.proofs.Together.{terms_of, lists_there, summed_is, summed_lawful, symbols_productive, all_zero, all_overflow, powers_past, dots_past, as_one}
use Rattle.form_normal.proofs.several.product_of_all.Goals as goal

pub returns-then-is_zero_alone-clause-ok : goal.returns-then-is_zero_alone-clause-ok
returns-then-is_zero_alone-clause-ok c = all_zero c.args.factors.now (sym (rw c.in_ok-lists.ensures at c.if-is_zero_alone.ensures))

pub returns-in_default-clause-refused : goal.returns-in_default-clause-refused
returns-in_default-clause-refused c = λ cause e.
    let same : Overflow ≡ cause = cc in
    rw (← same) (all_overflow c.args.factors.now (sym (rw c.in_ok-lists.ensures at c.if-is_zero_alone.ensures)) (sym c.in_default.ensures))

pub summed-requires : goal.summed-requires
summed-requires c =
    let ts = terms_of c.args.factors.now in
    rw c.in_ok-lists.ensures (All-from_recursion IsThere (lists_of ts).dots (lists_there ts c.in_ok-powers.ensures.lawful))

pub made_anew-requires-clause-powers : goal.made_anew-requires-clause-powers
made_anew-requires-clause-powers c =
    symbols_productive (terms_of c.args.factors.now) c.in_ok-powers.powers.items c.in_ok-powers.ensures.ok.0 c.in_ok-powers.ensures.ok.1

pub returns-in_err-powers-clause-refused : goal.returns-in_err-powers-clause-refused
returns-in_err-powers-clause-refused c = λ cause e.
    let refused = handed_on c.from_residual-in_err-powers.result c.in_err-powers.field-0.0 (Refused cause) c.from_residual-in_err-powers.ensures.1 e in
    let past = c.in_err-powers.ensures.refused cause (ap Err refused) in
    powers_past c.args.factors.now c.in-Some.size (sym (rw c.in_ok-lists.ensures at c.if-is_zero_alone.ensures)) (sym c.in-Some.ensures) past.1 ∙ ap Err (sym past.0)

pub returns-in_err-others-clause-refused : goal.returns-in_err-others-clause-refused
returns-in_err-others-clause-refused c = λ cause e.
    let refused = handed_on c.from_residual-in_err-others.result c.in_err-others.field-0.0 (Refused cause) c.from_residual-in_err-others.ensures.1 e in
    let past = c.in_err-others.ensures.refused cause (ap Err refused) in
    dots_past c.args.factors.now c.in-Some.size (sym (rw c.in_ok-lists.ensures at c.if-is_zero_alone.ensures)) (sym c.in-Some.ensures) (ap (λ (o : Others). are_dots_in_range (dots_product o.dots)) (sym c.in_ok-lists.ensures) ∙ past.1) ∙ ap Err (sym past.0)

pub made_anew-requires-clause-each : goal.made_anew-requires-clause-each
made_anew-requires-clause-each c =
    let ms = c.args.factors.now in
    rw (summed_is (terms_of ms) c.imaginary_count-count.result c.in_ok-lists.lists c.in_ok-others.others c.imaginary_count-count.ensures c.in_ok-lists.ensures c.in_ok-others.ensures.ok.0)
    (summed_lawful (terms_of ms) c.in_ok-powers.ensures.lawful)

pub made_anew-requires-clause-dots : goal.made_anew-requires-clause-dots
made_anew-requires-clause-dots c = rw c.in_ok-others.ensures.ok.0 (dots_rise c.in_ok-lists.lists.dots)

pub returns-clause-ok : goal.returns-clause-ok
returns-clause-ok c =
    let ms = c.args.factors.now in
    let zero = sym (rw c.in_ok-lists.ensures at c.if-is_zero_alone.ensures) in
    let sign = c.turned-coefficient.ensures ∙ ap (λ n. turned ((n / 2) % 2 == 1) c.in-Some.size) c.imaginary_count-count.ensures in
    let others = summed_is (terms_of ms) c.imaginary_count-count.result c.in_ok-lists.lists c.in_ok-others.others c.imaginary_count-count.ensures c.in_ok-lists.ensures c.in_ok-others.ensures.ok.0 in
    let is = as_one ms c.in-Some.size zero (sym c.in-Some.ensures) c.turned-coefficient.result c.in_ok-powers.powers.items c.in_ok-others.others sign c.in_ok-powers.ensures.ok.0 others in
    subst (λ (r : Result (Option Monomial) Cause). IfOk c.made_anew.result (λ m. r ≡ Ok m)) is c.made_anew.ensures.made

pub returns-clause-refused : goal.returns-clause-refused
returns-clause-refused c =
    let ms = c.args.factors.now in
    let zero = sym (rw c.in_ok-lists.ensures at c.if-is_zero_alone.ensures) in
    let sign = c.turned-coefficient.ensures ∙ ap (λ n. turned ((n / 2) % 2 == 1) c.in-Some.size) c.imaginary_count-count.ensures in
    let others = summed_is (terms_of ms) c.imaginary_count-count.result c.in_ok-lists.lists c.in_ok-others.others c.imaginary_count-count.ensures c.in_ok-lists.ensures c.in_ok-others.ensures.ok.0 in
    let is = as_one ms c.in-Some.size zero (sym c.in-Some.ensures) c.turned-coefficient.result c.in_ok-powers.powers.items c.in_ok-others.others sign c.in_ok-powers.ensures.ok.0 others in
    λ cause e. sym is ∙ c.made_anew.ensures.refused cause e
