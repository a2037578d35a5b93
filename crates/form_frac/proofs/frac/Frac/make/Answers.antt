use Rattle.std.proofs.Common.{to_z-of_z, to_z, of_z, sym, ◌∙◌, ap, ◌<◌, ℤ, pos, negsuc, nat_abs, ◌≡◌, zero, suc, arith, refl}
use Rattle.std.specs.Int.{w128}
use Rattle.form_frac.proofs.Fractions.{make_none, made_is}
use Rattle.form_frac.proofs.frac.Frac.make.Goals as goal

pub returns-then-d-eq0 : goal.returns-then-d-eq0
returns-then-d-eq0 c = sym (make_none c.args.n c.args.d (sym (to_z-of_z c.ranges.d) ∙ ap (to_z w128) c.if-d-eq0.true))

size_some : (z : ℤ) → (of_z w128 z ≡ 0 → ⊥) → 0 < nat_abs z
size_some (pos zero) no_zero = absurd (no_zero refl)
size_some (pos (suc n)) no_zero = omega arith
size_some (negsuc n) no_zero = omega arith

pub returns : goal.returns
returns c =
    let above = c.ranges.n in
    let below = c.ranges.d in
    let made = simp to_z-of_z at c.reduced.ensures in
    let size = simp to_z-of_z at c.unsigned_abs.ensures.value in
    let denominator = simp to_z-of_z at c.unsigned_abs-2.ensures.value in
    made_is c.args.n c.args.d _ _ c.reduced.result c.ok_or.result size denominator (size_some c.args.d c.if-d-eq0.false) made c.ok_or.ensures.value
