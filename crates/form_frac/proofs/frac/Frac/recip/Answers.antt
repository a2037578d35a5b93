use Rattle.std.proofs.Common.{rules, to_z-of_z, SFits, ◌<◌, nat_abs, arith, sym}
use Rattle.std.proofs.lemmas.Bool.{eqb-false}
use Rattle.std.specs.Int.{w128}
use Rattle.form_frac.proofs.Fractions.{turned_is_lowest}
use Rattle.form_frac.proofs.frac.Frac.recip.Goals as goal

pub invariant_of-result : goal.invariant_of-result
invariant_of-result c =
    let fits : SFits w128 c.signed.result = search rules in
    let some : 0 < nat_abs c.args.self.numerator = omega (arith, eqb-false (nat_abs c.args.self.numerator) 0 (sym c.if-is_zero.ensures)) in
    rw (to_z-of_z fits, c.signed.ensures, c.is_negative.ensures, c.denominator.ensures.value, c.numerator_size.ensures.value) (turned_is_lowest c.args.self c.denominator.ensures.lowest some)
