use Rattle.std.proofs.Common.{◌≤◌, nat_abs, arith, w32, refl}
use Rattle.std.proofs.lemmas.Bool.{le-leb}
use Rattle.std.proofs.lemmas.Int.{to_z-of_z}
use Rattle.form_term.specs.Term.{largest_exponent}
use Rattle.form_normal.specs.Product.{power_alone}
use Rattle.form_expand.specs.Numbers.{symbol_list}
use Rattle.form_expand.proofs.literal.take_symbol.Goals as goal

pub returns : goal.returns
unfolding symbol_list
returns c = λ e.
    let size = rw (to_z-of_z w32 c.args.power c.ranges.power) at c.unsigned_abs.ensures.value in
    let small : nat_abs c.args.power ≤ largest_exponent = omega (arith, size) in
    let within = le-leb (nat_abs c.args.power) largest_exponent small in
    let p = power_alone (record { symbol = c.args.symbol; exponent = c.args.power }) in
    record { factor = p; alone = rw within refl; by_one = c.single_factors.ensures.power (record { symbol = c.args.symbol; exponent = c.args.power }) small; product = rw (to_z-of_z w32 c.args.power c.ranges.power) at (rw (c.made.ensures e) at c.multiply_by_power.ensures) }
