use Rattle.std.proofs.Common.{◌≡◌, ◌+◌, ◌*◌, drop}
use Rattle.form_base.proofs.Heights.{height, height_of, height_of_all}
use Rattle.form_check.specs.Carried.{alternatives, and_one, conjunction, test, with_patterns}
use Rattle.form_right_side.specs.Refusal.{each}
use Rattle.form_check.proofs.condition.+nesting.Given as goal

-- each call goes one function further, or into a parenthesis

abbrev pub decreases-alternatives : goal.decreases-alternatives
decreases-alternatives l = height_of l.written.now * 3 + 2

abbrev pub decreases-conjunction : goal.decreases-conjunction
decreases-conjunction l = height_of_all l.written.now * 3 + 1

abbrev pub decreases-test : goal.decreases-test
decreases-test l = height l.written.now * 3

-- what is left goes on from what is made so far

abbrev pub invariant-conjunction-loop-one : goal.invariant-conjunction-loop-one
invariant-conjunction-loop-one l =
    conjunction l.names l.written l.initial.patterns ≡ each (and_one (test l.names)) (with_patterns l.tests l.patterns) (drop l.one-index l.written)

abbrev pub invariant-alternatives-loop-tests : goal.invariant-alternatives-loop-tests
invariant-alternatives-loop-tests l =
    alternatives l.names l.written l.initial.patterns ≡ each (and_one (conjunction l.names)) (with_patterns l.lists l.patterns) (drop l.tests-index l.written)
