use Rattle.std.proofs.Common.{◌<◌, ◌≤◌, nat_abs, arith, w32}
use Rattle.std.proofs.lemmas.Int.{to_z-of_z}
use Rattle.form_term.specs.Term.{largest_exponent}
use Rattle.form_expand.proofs.Lones.{symbol_alone}
use Rattle.form_expand.proofs.literal_arguments.of_symbol.Goals as goal

pub returns : goal.returns
returns c =
    let same = to_z-of_z w32 c.args.power c.ranges.power in
    let size = rw same at c.unsigned_abs-size.ensures.value in
    let some : 0 < nat_abs c.args.power = omega (arith, size, c.if-size-eq0.false) in
    let small : nat_abs c.args.power ≤ largest_exponent = omega (arith, size, c.if-size-gt-LARGEST_EXPONENT.false) in
    rw same (symbol_alone c.args.symbol c.args.power some small, (some, small))
