use Rattle.std.proofs.Common.{nat_abs, refl, arith, w32}
use Rattle.std.proofs.lemmas.Bool.{lt-leb, le-leb}
use Rattle.std.proofs.lemmas.Int.{to_z-of_z}
use Rattle.form_term.specs.Term.{largest_exponent}
use Rattle.form_expand.specs.Numbers.{symbol_list}
use Rattle.form_expand.proofs.number.symbol_list.Goals as goal

pub returns-then-unsigned_abs-gt-LARGEST_EXPONENT : goal.returns-then-unsigned_abs-gt-LARGEST_EXPONENT
unfolding symbol_list
returns-then-unsigned_abs-gt-LARGEST_EXPONENT c =
    let size = rw (to_z-of_z w32 c.args.power c.ranges.power) at c.unsigned_abs.ensures.value in
    let past = lt-leb (nat_abs c.args.power) largest_exponent (omega (arith, size)) in
    rw (c.refused.ensures, past) refl

pub returns : goal.returns
unfolding symbol_list
returns c =
    let size = rw (to_z-of_z w32 c.args.power c.ranges.power) at c.unsigned_abs.ensures.value in
    let within = le-leb (nat_abs c.args.power) largest_exponent (omega (arith, size)) in
    let term = rw (to_z-of_z w32 c.args.power c.ranges.power) at c.in_ok-symbol.ensures in
    rw (c.single.ensures, c.one.ensures, term, within) refl
