use Rattle.std.proofs.Common.{sym, ap, ◌∙◌, arith}
use Rattle.std.specs.List.{list_any}
use Rattle.form_base.proofs.Heights.{height, height_of, height_of_all, height_parenthesis, no_higher}
use Rattle.form_levels.specs.Asks.{asks_of_test}
use Rattle.form_levels.proofs.Asked.{asked_inside}
use Rattle.form_levels.proofs.asking.+nesting.Goals as goal

pub any_asks-one_asks-requires : goal.any_asks-one_asks-requires
any_asks-one_asks-requires t c =
    let e = ap height_of_all (c.as_slice.ensures ∙ c.tests-item.is) in
    let a = no_higher height_of_all c.args.condition.now c.loop-tests.tests-index c.tests-item.result c.loop-tests-test.true in
    (omega (arith, a, e, c.decreases), tt)

pub one_asks-test_asks-requires : goal.one_asks-test_asks-requires
one_asks-test_asks-requires t c =
    let e = ap height c.test-item.is in
    let a = no_higher height c.args.tests.now c.loop-test.test-index c.test-item.result c.loop-test-test.true in
    (omega (arith, a, e, c.decreases), tt)

pub test_asks-any_asks-requires : goal.test_asks-any_asks-requires
test_asks-any_asks-requires t c =
    let e = ap height_of c.as_slice.ensures in
    let a = ap height c.in-Parenthesis.is in
    let b = height_parenthesis c.in-Parenthesis.inner in
    (omega (arith, a, b, e, c.decreases), tt)

pub test_asks-returns-in-Parenthesis : goal.test_asks-returns-in-Parenthesis
test_asks-returns-in-Parenthesis t c =
    c.any_asks.ensures ∙ ap (list_any (list_any asks_of_test)) c.as_slice.ensures ∙ sym (asked_inside c.in-Parenthesis.inner) ∙ ap asks_of_test (sym c.in-Parenthesis.is)
