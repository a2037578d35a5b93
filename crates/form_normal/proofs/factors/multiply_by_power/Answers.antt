-- A power that goes last is put there; any other is multiplied by as a term.
use Rattle.std.proofs.Common.{◌≡◌, ap, sym, ◌∙◌, subst, rules}
use Rattle.std.specs.Int.{w32}
use Rattle.std.proofs.lemmas.Int.{to_z-of_z}
use Rattle.form_term.specs.declared.monomial.Monomial.{Monomial}
use Rattle.form_term.specs.Term.{symbol_power}
use Rattle.form_normal.specs.Product.{power_alone, Multiplies}
use Rattle.form_normal.proofs.Lasting.{power_made}
use Rattle.form_normal.proofs.factors.multiply_by_power.Goals as goal

pub returns-then-goes_last : goal.returns-then-goes_last
returns-then-goes_last c =
    let h = rw c.if-goes_last.true at c.goes_last.ensures in
    rw c.in_ok-push.ensures.pushed (power_made c.args.front.now c.args.power c.laws.ensures.lowest c.laws.ensures.lawful h.0 h.1 h.2)

pub returns : goal.returns
returns c =
    let alone = c.in_ok-symbol.ensures ∙ ap (symbol_power c.args.power.symbol) (to_z-of_z w32 c.args.power.exponent (search rules)) in
    let factor : record { coefficient = c.one.result; term = c.in_ok-symbol.field-0 } ≡ power_alone c.args.power = λ i. record { coefficient = c.one.ensures i; term = alone i } in
    subst (λ (m : Monomial). Multiplies c.multiply.result c.args.front.now m c.multiply.new.front) factor c.multiply.ensures
