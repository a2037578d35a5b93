use Rattle.std.proofs.Common.{◌≡◌, ◌+◌, ◌*◌, drop}
use Rattle.form_calc.specs.Condition.{parenthesis, alternatives, joint_at, either, conjunction, both, test_at}
use Rattle.form_calc.specs.Reading.{chained}
use Rattle.form_calc.proofs.condition.+condition.Given as goal

-- each call reads a part of what the one before reads, or opens a parenthesis

abbrev pub decreases-alternatives : goal.decreases-alternatives
decreases-alternatives l = l.deeper * 4 + 3

abbrev pub decreases-conjunction : goal.decreases-conjunction
decreases-conjunction l = l.deeper * 4 + 2

abbrev pub decreases-test : goal.decreases-test
decreases-test l = l.deeper * 4 + 1

abbrev pub decreases-parenthesis : goal.decreases-parenthesis
decreases-parenthesis l = l.deeper * 4

-- what the rest gives behind what is read is what the whole gives

abbrev pub invariant-alternatives-loop-turn : goal.invariant-alternatives-loop-turn
invariant-alternatives-loop-turn l = alternatives (parenthesis l.deeper) l.text ≡ chained (joint_at 124) (λ joint. either) (conjunction (parenthesis l.deeper)) (drop l._turn-index l.text) l.truth l.rest

abbrev pub invariant-conjunction-loop-turn : goal.invariant-conjunction-loop-turn
invariant-conjunction-loop-turn l = conjunction (parenthesis l.deeper) l.text ≡ chained (joint_at 38) (λ joint. both) (test_at (parenthesis l.deeper)) (drop l._turn-index l.text) l.truth l.rest
