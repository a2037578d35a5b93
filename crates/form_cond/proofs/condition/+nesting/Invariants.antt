use Rattle.std.proofs.Common.{◌≡◌, ◌+◌, ◌*◌, true, false, List, take}
use Rattle.std.specs.List.{list_all, list_any}
use Rattle.form_base.proofs.Heights.{height, height_of, height_of_all}
use Rattle.form_cond.specs.Condition.{AreReady, Ready, test_holds}
use Rattle.form_cond.proofs.condition.+nesting.Given as goal

-- each call goes one function further, or into a parenthesis

abbrev pub decreases-holds : goal.decreases-holds
decreases-holds l = height_of l.condition.now * 3 + 2

abbrev pub decreases-all_hold : goal.decreases-all_hold
decreases-all_hold l = height_of_all l.tests.now * 3 + 1

abbrev pub decreases-test_holds : goal.decreases-test_holds
decreases-test_holds l = height l.test.now * 3

-- none before holds whole
abbrev pub invariant-holds-loop-tests : goal.invariant-holds-loop-tests
invariant-holds-loop-tests l =
    (rs : List Ready) → AreReady l.patterns rs → list_any (list_all (test_holds rs l.coefficient l.term)) (take l.tests-index l.condition) ≡ false

-- all before hold
abbrev pub invariant-all_hold-loop-test : goal.invariant-all_hold-loop-test
invariant-all_hold-loop-test l =
    (rs : List Ready) → AreReady l.patterns rs → list_all (test_holds rs l.coefficient l.term) (take l.test-index l.tests) ≡ true
