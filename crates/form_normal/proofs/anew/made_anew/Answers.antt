-- The product of one factor is its coefficient with its factors in order.
use Rattle.std.proofs.Common.{◌≡◌, Ok, Err, ap, sym, subst}
use Rattle.form_term.specs.declared.monomial.Monomial.{Monomial}
use Rattle.form_term.specs.Term.{Term}
use Rattle.form_term.specs.Terms.{term}
use Rattle.form_normal.specs.declared.products.ProductError.TheVariants.{Refused}
use Rattle.form_normal.specs.Product.{limited}
use Rattle.form_normal.proofs.Alone.{alone_zero, alone_refused, alone_made, anew_term, ordered_lawful}
use Rattle.form_normal.proofs.Parts.{handed_on}
use Rattle.form_normal.proofs.anew.made_anew.Goals as goal

pub returns-then-is_zero_alone-clause-made : goal.returns-then-is_zero_alone-clause-made
returns-then-is_zero_alone-clause-made c =
    let m : Monomial = record { coefficient = c.args.coefficient; term = term c.args.powers.items c.args.others } in
    alone_zero m (sym c.if-is_zero_alone.ensures)

pub within_limits-requires-clause-others : goal.within_limits-requires-clause-others
within_limits-requires-clause-others c = rw c.ordered-others.ensures (ordered_lawful c.args.others c.requires.each c.requires.dots c.requires.range)

pub returns-in_err-term-clause-refused : goal.returns-in_err-term-clause-refused
returns-in_err-term-clause-refused c = λ cause e.
    let m : Monomial = record { coefficient = c.args.coefficient; term = term c.args.powers.items c.args.others } in
    let refused = handed_on c.from_residual.result c.in_err-term.field-0.0 (Refused cause) c.from_residual.ensures.1 e in
    let is = anew_term c.args.powers.items c.args.others c.ordered-others.result c.requires.powers c.ordered-others.ensures in
    alone_refused m cause (sym c.if-is_zero_alone.ensures) (subst (λ (t : Term). limited t ≡ Err cause) is (c.in_err-term.ensures.refused cause (ap Err refused)))

pub returns-clause-made : goal.returns-clause-made
returns-clause-made c =
    let m : Monomial = record { coefficient = c.args.coefficient; term = term c.args.powers.items c.args.others } in
    let is = anew_term c.args.powers.items c.args.others c.ordered-others.result c.requires.powers c.ordered-others.ensures in
    alone_made m c.in_ok-term.term (sym c.if-is_zero_alone.ensures) (subst (λ (t : Term). limited t ≡ Ok c.in_ok-term.term) is c.in_ok-term.ensures.ok)
