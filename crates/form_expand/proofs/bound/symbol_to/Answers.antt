use Rattle.std.proofs.Common.{nat_abs, refl, arith}
use Rattle.std.specs.Int.{w128}
use Rattle.std.proofs.lemmas.Bool.{lt-leb}
use Rattle.std.proofs.lemmas.Int.{to_z-of_z}
use Rattle.form_term.specs.Term.{largest_exponent}
use Rattle.form_expand.specs.Numbers.{symbol_list}
use Rattle.form_expand.proofs.bound.symbol_to.Goals as goal

pub returns-then-unsigned_abs : goal.returns-then-unsigned_abs
unfolding symbol_list
returns-then-unsigned_abs c =
    let size = rw (to_z-of_z w128 c.args.power c.ranges.power) at c.unsigned_abs.ensures.value in
    let past = lt-leb (nat_abs c.args.power) largest_exponent (omega (arith, size)) in
    rw (c.refused.ensures, past) refl
