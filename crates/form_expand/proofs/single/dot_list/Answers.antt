use Rattle.std.proofs.Common.{◌≡◌, nat_abs, refl, arith, w32, ap, sym, ◌∙◌, subst, IfOk}
use Rattle.std.proofs.lemmas.Bool.{lt-leb, le-leb}
use Rattle.std.proofs.lemmas.Int.{to_z-of_z}
use Rattle.form_term.specs.Factor.{dot_of, dot_factor}
use Rattle.form_term.specs.Term.{largest_exponent}
use Rattle.form_expand.specs.Kept.{listing}
use Rattle.form_expand.specs.Listing.{Listing}
use Rattle.form_expand.specs.Singles.{alone, dot_list}
use Rattle.form_expand.proofs.single.dot_list.Goals as goal

pub returns-then-size-gt-LARGEST_EXPONENT : goal.returns-then-size-gt-LARGEST_EXPONENT
unfolding dot_list
returns-then-size-gt-LARGEST_EXPONENT c =
    let size = rw (to_z-of_z w32 c.args.power c.ranges.power) at c.unsigned_abs-size.ensures.value in
    let past = lt-leb (nat_abs c.args.power) largest_exponent (omega (arith, size, c.if-size-gt-LARGEST_EXPONENT.true)) in
    rw (c.refused.ensures, past) refl

pub returns-then-size-eq0 : goal.returns-then-size-eq0
unfolding dot_list
returns-then-size-eq0 c =
    let size = rw (to_z-of_z w32 c.args.power c.ranges.power) at c.unsigned_abs-size.ensures.value in
    let within = le-leb (nat_abs c.args.power) largest_exponent (omega (arith, size, c.if-size-gt-LARGEST_EXPONENT.false)) in
    let none = le-leb (nat_abs c.args.power) 0 (omega (arith, size, c.if-size-eq0.true)) in
    rw (c.single.ensures, c.unit.ensures, within, none) refl

pub returns : goal.returns
unfolding dot_list
returns c =
    let size = rw (to_z-of_z w32 c.args.power c.ranges.power) at c.unsigned_abs-size.ensures.value in
    let within = le-leb (nat_abs c.args.power) largest_exponent (omega (arith, size, c.if-size-gt-LARGEST_EXPONENT.false)) in
    let some = lt-leb (nat_abs c.args.power) 0 (omega (arith, size, c.if-size-eq0.false)) in
    let term = c.in_ok-dot.ensures ∙ ap dot_factor (c.of.ensures.is ∙ ap (dot_of c.args.left c.args.right) (to_z-of_z w32 c.args.power c.ranges.power)) in
    let list : dot_list c.args.left c.args.right c.args.power ≡ alone (dot_factor (dot_of c.args.left c.args.right c.args.power)) = rw (within, some) refl in
    subst (λ (l : Listing). IfOk c.alone.result (λ w. listing w ≡ l)) (ap alone term ∙ sym list) c.alone.ensures
