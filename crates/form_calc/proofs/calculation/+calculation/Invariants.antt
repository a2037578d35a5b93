use Rattle.std.proofs.Common.{◌≡◌, ◌+◌, ◌*◌, drop}
use Rattle.form_calc.specs.Calculation.{parenthesis, sum, sign_at, added, product, operator_at, applied, factor}
use Rattle.form_calc.specs.Reading.{chained}
use Rattle.form_calc.proofs.calculation.+calculation.Given as goal

-- each call reads a part of what the one before reads, or opens a parenthesis

abbrev pub decreases-sum : goal.decreases-sum
decreases-sum l = l.deeper * 5 + 4

abbrev pub decreases-product : goal.decreases-product
decreases-product l = l.deeper * 5 + 3

abbrev pub decreases-factor : goal.decreases-factor
decreases-factor l = l.deeper * 5 + 2

abbrev pub decreases-primary : goal.decreases-primary
decreases-primary l = l.deeper * 5 + 1

abbrev pub decreases-parenthesis : goal.decreases-parenthesis
decreases-parenthesis l = l.deeper * 5

-- what the rest gives behind what is read is what the whole gives

abbrev pub invariant-sum-loop-turn : goal.invariant-sum-loop-turn
invariant-sum-loop-turn l = sum (parenthesis l.deeper) l.text ≡ chained sign_at added (product (parenthesis l.deeper)) (drop l._turn-index l.text) l.value l.rest

abbrev pub invariant-product-loop-turn : goal.invariant-product-loop-turn
invariant-product-loop-turn l = product (parenthesis l.deeper) l.text ≡ chained operator_at applied (factor (parenthesis l.deeper)) (drop l._turn-index l.text) l.value l.rest
