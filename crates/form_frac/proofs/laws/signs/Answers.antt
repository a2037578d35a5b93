use Rattle.form_frac.proofs.Signs.{sum_with_negative, product_with_reciprocal, sign_of_reciprocal, compared_by_difference, compared_equal}
use Rattle.form_frac.proofs.laws.signs.Goals as goal

pub returns-clause-negative : goal.returns-clause-negative
returns-clause-negative c = sum_with_negative

pub returns-clause-reciprocal : goal.returns-clause-reciprocal
returns-clause-reciprocal c = product_with_reciprocal

pub returns-clause-kept : goal.returns-clause-kept
returns-clause-kept c = sign_of_reciprocal

pub returns-clause-order : goal.returns-clause-order
returns-clause-order c = compared_by_difference

pub returns-clause-equal : goal.returns-clause-equal
returns-clause-equal c = compared_equal
