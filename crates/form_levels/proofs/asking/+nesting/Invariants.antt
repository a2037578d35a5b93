use Rattle.std.proofs.Common.{◌≡◌, ◌+◌, ◌*◌, false, take}
use Rattle.std.specs.List.{list_any}
use Rattle.form_base.proofs.Heights.{height, height_of, height_of_all}
use Rattle.form_levels.specs.Asks.{asks_of_test}
use Rattle.form_levels.proofs.asking.+nesting.Given as goal

-- each call goes one function further, or into a parenthesis

abbrev pub decreases-any_asks : goal.decreases-any_asks
decreases-any_asks l = height_of l.condition.now * 3 + 2

abbrev pub decreases-one_asks : goal.decreases-one_asks
decreases-one_asks l = height_of_all l.tests.now * 3 + 1

abbrev pub decreases-test_asks : goal.decreases-test_asks
decreases-test_asks l = height l.test.now * 3

-- none before asks
abbrev pub invariant-any_asks-loop-tests : goal.invariant-any_asks-loop-tests
invariant-any_asks-loop-tests l = list_any (list_any asks_of_test) (take l.tests-index l.condition) ≡ false

abbrev pub invariant-one_asks-loop-test : goal.invariant-one_asks-loop-test
invariant-one_asks-loop-test l = list_any asks_of_test (take l.test-index l.tests) ≡ false
