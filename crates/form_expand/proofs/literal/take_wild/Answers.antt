use Rattle.std.proofs.Common.{w32, sym, ap, ◌∙◌}
use Rattle.std.proofs.lemmas.Int.{to_z-of_z}
use Rattle.form_normal.specs.Product.{number_alone}
use Rattle.form_expand.proofs.literal.take_wild.Goals as goal

pub returns-clause-one : goal.returns-clause-one
returns-clause-one c = λ e.
    let is = rw (to_z-of_z w32 c.args.power c.ranges.power) at c.in-Some.ensures.0 in
    is ∙ ap (λ l. (l, 1)) (sym (ap (λ p. p.0) is))

pub returns-clause-times : goal.returns-clause-times
returns-clause-times c = λ e.
    let is = rw (to_z-of_z w32 c.args.power c.ranges.power) at c.in-Some.ensures.0 in
    record { factor = number_alone c.in-Some.number; alone = ap (λ p. p.0) is; by_one = c.single_factors.ensures.number c.in-Some.number c.in-Some.ensures.1; product = rw (c.made.ensures e) at c.multiply_by_number.ensures }
