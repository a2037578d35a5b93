use Rattle.std.proofs.Common.{sym, arith, w32}
use Rattle.std.proofs.lemmas.Int.{to_z-of_z}
use Rattle.form_expand.proofs.NumberLists.{number_of_none, number_too_large, number_made}
use Rattle.form_expand.proofs.number.number_list.Goals as goal

pub returns-then-size-eq0 : goal.returns-then-size-eq0
returns-then-size-eq0 c =
    let size = rw (to_z-of_z w32 c.args.power c.ranges.power) at c.unsigned_abs-size.ensures.value in
    rw (c.single.ensures, c.unit.ensures) (sym (number_of_none c.args.value c.args.power (omega (arith, size))))

pub returns-then-value-gt-LARGEST : goal.returns-then-value-gt-LARGEST
returns-then-value-gt-LARGEST c =
    let size = rw (to_z-of_z w32 c.args.power c.ranges.power) at c.unsigned_abs-size.ensures.value in
    rw c.refused.ensures (sym (number_too_large c.args.value c.args.power (omega (arith, size)) c.if-value-gt-LARGEST.true))

pub returns : goal.returns
returns c =
    let size = rw (to_z-of_z w32 c.args.power c.ranges.power) at c.unsigned_abs-size.ensures.value in
    let base = rw (to_z-of_z w32 c.args.power c.ranges.power) at c.factor_of-base.ensures in
    rw (c.of_fraction.ensures, size) (number_made c.args.value c.args.power c.factor_of-base.result (omega (arith, size)) c.if-value-gt-LARGEST.false base)
