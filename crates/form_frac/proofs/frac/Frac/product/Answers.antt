use Rattle.std.proofs.Common.{sym, ◌∙◌, ◌≡◌, nat_le, false, arith}
use Rattle.form_frac.specs.Fraction.{largest}
use Rattle.form_frac.proofs.Fractions.{gcd_some, none_if, some_if, multiply_is, multiply_none_above, multiply_none_below, left_coprime, denominator_left_some, size_left, denominator_left}
use Rattle.form_frac.proofs.frac.Frac.product.Goals as goal

pub quotient-requires : goal.quotient-requires
quotient-requires c = rw c.gcd-left.ensures.value (gcd_some _ _ (omega arith))

pub quotient-requires-2 : goal.quotient-requires-2
quotient-requires-2 c = rw c.gcd-right.ensures.value (gcd_some _ _ (omega arith))

pub returns-in_err-size : goal.returns-in_err-size
returns-in_err-size c =
    let e = none_if _ _ (sym c.in_err-size.was ∙ c.product_size.ensures) in
    let k : nat_le (size_left c.args.self c.args.other) largest ≡ false = cc in
    c.from_residual.ensures ∙ sym (multiply_none_above c.args.self c.args.other c.denominator-left_denominator.ensures.lowest c.denominator-right_denominator.ensures.lowest k)

pub quotient-requires-3 : goal.quotient-requires-3
quotient-requires-3 c = rw c.gcd-right.ensures.value (gcd_some _ _ (omega arith))

pub quotient-requires-4 : goal.quotient-requires-4
quotient-requires-4 c = rw c.gcd-left.ensures.value (gcd_some _ _ (omega arith))

pub returns-in_err-denominator : goal.returns-in_err-denominator
returns-in_err-denominator c =
    let e = none_if _ _ (sym c.in_err-denominator.was ∙ c.product_size-2.ensures) in
    let k : nat_le (denominator_left c.args.self c.args.other) largest ≡ false = cc in
    c.from_residual-in_err-denominator.ensures ∙ sym (multiply_none_below c.args.self c.args.other c.denominator-left_denominator.ensures.lowest c.denominator-right_denominator.ensures.lowest k)

pub from_parts-requires-clause-is_over_some : goal.from_parts-requires-clause-is_over_some
from_parts-requires-clause-is_over_some c =
    let e = (some_if _ _ _ (sym c.in_ok-denominator.was ∙ c.product_size-2.ensures)).1 in
    let denominator : c.in_ok-denominator.denominator ≡ denominator_left c.args.self c.args.other = cc in
    rw denominator (denominator_left_some c.args.self c.args.other c.denominator-left_denominator.ensures.lowest c.denominator-right_denominator.ensures.lowest)

pub from_parts-requires-clause-is_coprime : goal.from_parts-requires-clause-is_coprime
from_parts-requires-clause-is_coprime c =
    let p = (some_if _ _ _ (sym c.in_ok-size.was ∙ c.product_size.ensures)).1 in
    let q = (some_if _ _ _ (sym c.in_ok-denominator.was ∙ c.product_size-2.ensures)).1 in
    let size : c.in_ok-size.size ≡ size_left c.args.self c.args.other = cc in
    let denominator : c.in_ok-denominator.denominator ≡ denominator_left c.args.self c.args.other = cc in
    rw (size, denominator) (left_coprime c.args.self c.args.other c.denominator-left_denominator.ensures.lowest c.denominator-right_denominator.ensures.lowest)

pub returns : goal.returns
returns c =
    let p = (some_if _ _ _ (sym c.in_ok-size.was ∙ c.product_size.ensures)).1 in
    let q = (some_if _ _ _ (sym c.in_ok-denominator.was ∙ c.product_size-2.ensures)).1 in
    let size : c.in_ok-size.size ≡ size_left c.args.self c.args.other = cc in
    let denominator : c.in_ok-denominator.denominator ≡ denominator_left c.args.self c.args.other = cc in
    let made = rw (c.is_negative.ensures, c.is_negative-2.ensures, size, denominator) at c.from_parts.ensures in
    made ∙ sym (multiply_is c.args.self c.args.other c.denominator-left_denominator.ensures.lowest c.denominator-right_denominator.ensures.lowest)
