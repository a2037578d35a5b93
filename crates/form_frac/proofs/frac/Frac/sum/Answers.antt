use Rattle.std.proofs.Common.{rules, SFits, to_z-of_z, sym, ◌∙◌, arith}
use Rattle.std.specs.Int.{w128}
use Rattle.form_frac.proofs.Fractions.{gcd_some, sum_none_common, sum_none_left, sum_none_right, sum_none, sum_some, some_if, common_some}
use Rattle.form_frac.proofs.frac.Frac.sum.Goals as goal

pub quotient-left_factor-requires : goal.quotient-left_factor-requires
quotient-left_factor-requires c = rw c.gcd-divisor.ensures.value (gcd_some _ _ (omega arith))

pub quotient-right_factor-requires : goal.quotient-right_factor-requires
quotient-right_factor-requires c = rw c.gcd-divisor.ensures.value (gcd_some _ _ (omega arith))

pub returns-in_err-common : goal.returns-in_err-common
returns-in_err-common c =
    let common = simp (c.quotient-left_factor.ensures, c.gcd-divisor.ensures.value, c.denominator-left_denominator.ensures.value, c.denominator-right_denominator.ensures.value) at c.product_size.ensures in
    c.from_residual.ensures ∙ sym (sum_none_common c.args.self c.args.other c.denominator-left_denominator.ensures.lowest c.denominator-right_denominator.ensures.lowest (sym c.in_err-common.was ∙ common))

pub returns-in_err-left : goal.returns-in_err-left
returns-in_err-left c =
    let common = simp (c.quotient-left_factor.ensures, c.gcd-divisor.ensures.value, c.denominator-left_denominator.ensures.value, c.denominator-right_denominator.ensures.value) at c.product_size.ensures in
    let fits : SFits w128 c.numerator.result = search rules in
    let brought = simp to_z-of_z at c.scaled.ensures in
    let left = simp (c.quotient-left_factor.ensures, c.gcd-divisor.ensures.value, c.denominator-left_denominator.ensures.value, c.denominator-right_denominator.ensures.value, c.numerator.ensures.value) at brought in
    c.from_residual-in_err-left.ensures ∙ sym (sum_none_left c.args.self c.args.other c.denominator-left_denominator.ensures.lowest c.denominator-right_denominator.ensures.lowest _ (sym c.in_ok-common.was ∙ common) (sym c.in_err-left.was ∙ left))

pub returns-in_err-right : goal.returns-in_err-right
returns-in_err-right c =
    let common = simp (c.quotient-left_factor.ensures, c.gcd-divisor.ensures.value, c.denominator-left_denominator.ensures.value, c.denominator-right_denominator.ensures.value) at c.product_size.ensures in
    let fits : SFits w128 c.numerator.result = search rules in
    let brought = simp to_z-of_z at c.scaled.ensures in
    let left = simp (c.quotient-left_factor.ensures, c.gcd-divisor.ensures.value, c.denominator-left_denominator.ensures.value, c.denominator-right_denominator.ensures.value, c.numerator.ensures.value) at brought in
    let fits' : SFits w128 c.numerator-2.result = search rules in
    let brought' = simp to_z-of_z at c.scaled-2.ensures in
    let right = simp (c.quotient-right_factor.ensures, c.gcd-divisor.ensures.value, c.denominator-left_denominator.ensures.value, c.denominator-right_denominator.ensures.value, c.numerator-2.ensures.value) at brought' in
    c.from_residual-in_err-right.ensures ∙ sym (sum_none_right c.args.self c.args.other c.denominator-left_denominator.ensures.lowest c.denominator-right_denominator.ensures.lowest _ _ (sym c.in_ok-common.was ∙ common) (sym c.in_ok-left.was ∙ left) (sym c.in_err-right.was ∙ right))

pub returns-in_err-sum : goal.returns-in_err-sum
returns-in_err-sum c =
    let common = simp (c.quotient-left_factor.ensures, c.gcd-divisor.ensures.value, c.denominator-left_denominator.ensures.value, c.denominator-right_denominator.ensures.value) at c.product_size.ensures in
    let fits : SFits w128 c.numerator.result = search rules in
    let brought = simp to_z-of_z at c.scaled.ensures in
    let left = simp (c.quotient-left_factor.ensures, c.gcd-divisor.ensures.value, c.denominator-left_denominator.ensures.value, c.denominator-right_denominator.ensures.value, c.numerator.ensures.value) at brought in
    let fits' : SFits w128 c.numerator-2.result = search rules in
    let brought' = simp to_z-of_z at c.scaled-2.ensures in
    let right = simp (c.quotient-right_factor.ensures, c.gcd-divisor.ensures.value, c.denominator-left_denominator.ensures.value, c.denominator-right_denominator.ensures.value, c.numerator-2.ensures.value) at brought' in
    let fits_left : SFits w128 c.in_ok-left.left = search rules in
    let fits_right : SFits w128 c.in_ok-right.right = search rules in
    let sum = simp to_z-of_z at c.sum.ensures in
    c.from_residual-in_err-sum.ensures ∙ sym (sum_none c.args.self c.args.other c.denominator-left_denominator.ensures.lowest c.denominator-right_denominator.ensures.lowest _ _ _ (sym c.in_ok-common.was ∙ common) (sym c.in_ok-left.was ∙ left) (sym c.in_ok-right.was ∙ right) (sym c.in_err-sum.was ∙ sum))

pub reduced-requires : goal.reduced-requires
reduced-requires c =
    let common = simp (c.quotient-left_factor.ensures, c.gcd-divisor.ensures.value, c.denominator-left_denominator.ensures.value, c.denominator-right_denominator.ensures.value) at c.product_size.ensures in
    rw (some_if _ _ _ (sym c.in_ok-common.was ∙ common)).1 (common_some c.args.self c.args.other c.denominator-left_denominator.ensures.lowest c.denominator-right_denominator.ensures.lowest)

pub returns : goal.returns
returns c =
    let common = simp (c.quotient-left_factor.ensures, c.gcd-divisor.ensures.value, c.denominator-left_denominator.ensures.value, c.denominator-right_denominator.ensures.value) at c.product_size.ensures in
    let fits : SFits w128 c.numerator.result = search rules in
    let brought = simp to_z-of_z at c.scaled.ensures in
    let left = simp (c.quotient-left_factor.ensures, c.gcd-divisor.ensures.value, c.denominator-left_denominator.ensures.value, c.denominator-right_denominator.ensures.value, c.numerator.ensures.value) at brought in
    let fits' : SFits w128 c.numerator-2.result = search rules in
    let brought' = simp to_z-of_z at c.scaled-2.ensures in
    let right = simp (c.quotient-right_factor.ensures, c.gcd-divisor.ensures.value, c.denominator-left_denominator.ensures.value, c.denominator-right_denominator.ensures.value, c.numerator-2.ensures.value) at brought' in
    let fits_left : SFits w128 c.in_ok-left.left = search rules in
    let fits_right : SFits w128 c.in_ok-right.right = search rules in
    let sum = simp to_z-of_z at c.sum.ensures in
    let fits_sum : SFits w128 c.in_ok-sum.sum = search rules in
    let size = simp to_z-of_z at c.unsigned_abs.ensures.value in
    let reduced = simp to_z-of_z at c.reduced.ensures in
    let result = simp size at reduced in
    result ∙ sum_some c.args.self c.args.other c.denominator-left_denominator.ensures.lowest c.denominator-right_denominator.ensures.lowest _ _ _ _ (sym c.in_ok-common.was ∙ common) (sym c.in_ok-left.was ∙ left) (sym c.in_ok-right.was ∙ right) (sym c.in_ok-sum.was ∙ sum)
