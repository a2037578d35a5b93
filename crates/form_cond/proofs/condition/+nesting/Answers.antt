use Rattle.std.proofs.Common.{◌≡◌, Bool, sym, ap, subst, ◌∙◌, arith}
use Rattle.std.specs.Prelude.{IfOk}
use Rattle.std.specs.List.{list_any}
use Rattle.form_base.proofs.Heights.{height, height_of, height_of_all, height_parenthesis, no_higher}
use Rattle.form_tree.specs.Condition.{Alternatives}
use Rattle.form_cond.specs.Condition.{has_match, holds, test_holds}
use Rattle.form_cond.proofs.Tested.{parenthesis, match_parenthesis}
use Rattle.form_cond.proofs.condition.+nesting.Goals as goal

pub holds-all_hold-requires : goal.holds-all_hold-requires
holds-all_hold-requires t c =
    let e = ap height_of_all (c.as_slice.ensures ∙ c.tests-item.is) in
    let a = no_higher height_of_all c.args.condition.now c.loop-tests.tests-index c.tests-item.result c.loop-tests-test.true in
    (omega (arith, a, e, c.decreases), tt)

pub all_hold-test_holds-requires : goal.all_hold-test_holds-requires
all_hold-test_holds-requires t c =
    let e = ap height c.test-item.is in
    let a = no_higher height c.args.tests.now c.loop-test.test-index c.test-item.result c.loop-test-test.true in
    (omega (arith, a, e, c.decreases), tt)

pub test_holds-holds-requires : goal.test_holds-holds-requires
test_holds-holds-requires t c =
    let e = ap height_of c.as_slice.ensures in
    let a = ap height c.in-Parenthesis.is in
    let b = height_parenthesis c.in-Parenthesis.inner in
    (omega (arith, a, b, e, c.decreases), tt)

pub test_holds-returns-in-Parenthesis-clause-holds : goal.test_holds-returns-in-Parenthesis-clause-holds
test_holds-returns-in-Parenthesis-clause-holds t c rs ready =
    let x = c.args.coefficient in
    let term = c.args.term.now in
    subst (λ (b : Bool). IfOk c.holds.result (λ truth. truth ≡ b))
    (ap (λ (a : Alternatives). holds rs a x term) c.as_slice.ensures ∙ sym (parenthesis rs x term c.in-Parenthesis.inner) ∙ ap (test_holds rs x term) (sym c.in-Parenthesis.is))
    (c.holds.ensures.holds rs ready)

pub test_holds-returns-in-Parenthesis-clause-without_match : goal.test_holds-returns-in-Parenthesis-clause-without_match
test_holds-returns-in-Parenthesis-clause-without_match t c none =
    c.holds.ensures.without_match (ap (list_any (list_any has_match)) c.as_slice.ensures ∙ sym (match_parenthesis c.in-Parenthesis.inner) ∙ ap has_match (sym c.in-Parenthesis.is) ∙ none)
