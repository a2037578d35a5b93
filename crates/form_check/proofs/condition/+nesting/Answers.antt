use Rattle.std.proofs.Common.{ap, sym, subst, ◌∙◌, arith}
use Rattle.std.proofs.lemmas.Result.{err_from_is_err_and}
use Rattle.form_base.proofs.Heights.{height, height_of, height_of_all, height_parenthesis, no_higher}
use Rattle.std.specs.Prelude.{All, Result}
use Rattle.form_ast.specs.Conditions.{Condition}
use Rattle.form_check.specs.Carried.{With, alternatives, value_with, with_patterns}
use Rattle.form_tree.specs.Condition.{Alternatives}
use Rattle.form_right_side.specs.Refusal.{IsRefused, Refusal}
use Rattle.form_check.proofs.Tests.{alone_made, alone_refused, compared_made, first_refused, parenthesis_made, parenthesis_refused, second_refused}
use Rattle.form_check.proofs.Written.{AreAllWritten, AreWritten, alone_value, compared_values, parenthesis_values}
use Rattle.form_check.proofs.condition.+nesting.Goals as goal

pub alternatives-conjunction-requires : goal.alternatives-conjunction-requires
alternatives-conjunction-requires t c =
    let is = c.as_slice.ensures ∙ c.tests-item.is in
    let a = no_higher height_of_all c.args.written.now c.loop-tests.tests-index c.tests-item.result c.loop-tests-test.true in
    (omega (arith, a, ap height_of_all is, c.decreases), subst AreAllWritten (sym is) (c.requires c.loop-tests.tests-index c.tests-item.result c.loop-tests-test.true))

pub conjunction-test-requires : goal.conjunction-test-requires
conjunction-test-requires t c =
    let a = no_higher height c.args.written.now c.loop-one.one-index c.one-item.result c.loop-one-test.true in
    (omega (arith, a, ap height c.one-item.is, c.decreases), subst AreWritten (sym c.one-item.is) (c.requires c.loop-one.one-index c.one-item.result c.loop-one-test.true))

-- ---- a value alone

pub test-value-requires : goal.test-value-requires
test-value-requires t c = alone_value c.args.written.now c.in-Nonzero.value c.requires c.in-Nonzero.is

pub test-returns-in_err-alone-in-Nonzero : goal.test-returns-in_err-alone-in-Nonzero
test-returns-in_err-alone-in-Nonzero t c =
    let e = err_from_is_err_and c.from_residual.result c.from_residual.ensures.1 in
    rw (e.1, e.2) (alone_refused c.args.names.now c.args.written.now c.in-Nonzero.value c.args.patterns.now c.in_err-alone-in-Nonzero.field-0.0 c.in-Nonzero.is c.in_err-alone-in-Nonzero.ensures)

pub test-returns-in_ok-alone-in-Nonzero : goal.test-returns-in_ok-alone-in-Nonzero
test-returns-in_ok-alone-in-Nonzero t c =
    alone_made c.args.names.now c.args.written.now c.in-Nonzero.value c.args.patterns.now (value_with c.in_ok-alone-in-Nonzero.alone c.value.new.self) c.in-Nonzero.is c.in_ok-alone-in-Nonzero.ensures

-- ---- two values that are compared

pub test-value-requires-in-Compared : goal.test-value-requires-in-Compared
test-value-requires-in-Compared t c = (compared_values c.args.written.now c.in-Compared.left c.in-Compared.by c.in-Compared.right c.requires c.in-Compared.is).0

pub test-value-requires-in-Compared-2 : goal.test-value-requires-in-Compared-2
test-value-requires-in-Compared-2 t c = (compared_values c.args.written.now c.in-Compared.left c.in-Compared.by c.in-Compared.right c.requires c.in-Compared.is).1

pub test-returns-in_err-first-in-Compared : goal.test-returns-in_err-first-in-Compared
test-returns-in_err-first-in-Compared t c =
    let e = err_from_is_err_and c.from_residual-in_err-first-in-Compared.result c.from_residual-in_err-first-in-Compared.ensures.1 in
    rw (e.1, e.2) (first_refused c.args.names.now c.args.written.now c.in-Compared.left c.in-Compared.by c.in-Compared.right c.args.patterns.now c.in_err-first-in-Compared.field-0.0 c.in-Compared.is c.in_err-first-in-Compared.ensures)

pub test-returns-in_err-second-in-Compared : goal.test-returns-in_err-second-in-Compared
test-returns-in_err-second-in-Compared t c =
    let e = err_from_is_err_and c.from_residual-in_err-second-in-Compared.result c.from_residual-in_err-second-in-Compared.ensures.1 in
    let x = value_with c.in_ok-first-in-Compared.first c.value-in-Compared.new.self in
    rw (e.1, e.2) (second_refused c.args.names.now c.args.written.now c.in-Compared.left c.in-Compared.by c.in-Compared.right c.args.patterns.now x c.in_err-second-in-Compared.field-0.0 c.in-Compared.is
    c.in_ok-first-in-Compared.ensures c.in_err-second-in-Compared.ensures)

pub test-returns-in_ok-second-in-Compared : goal.test-returns-in_ok-second-in-Compared
test-returns-in_ok-second-in-Compared t c =
    let x = value_with c.in_ok-first-in-Compared.first c.value-in-Compared.new.self in
    let y = value_with c.in_ok-second-in-Compared.second c.value-in-Compared-2.new.self in
    compared_made c.args.names.now c.args.written.now c.in-Compared.left c.in-Compared.by c.in-Compared.right c.args.patterns.now x y c.in-Compared.is c.in_ok-first-in-Compared.ensures c.in_ok-second-in-Compared.ensures

-- ---- a condition in parentheses

pub test-alternatives-requires : goal.test-alternatives-requires
test-alternatives-requires t c =
    let e = ap height_of c.as_slice.ensures in
    let a = ap height c.in-Parenthesis.is in
    let b = height_parenthesis c.in-Parenthesis.inner in
    let written = parenthesis_values c.args.written.now c.in-Parenthesis.inner c.requires c.in-Parenthesis.is in
    (omega (arith, a, b, e, c.decreases), subst (λ (all : Condition). All AreAllWritten all) (sym c.as_slice.ensures) written)

pub test-returns-in_err-lists-in-Parenthesis : goal.test-returns-in_err-lists-in-Parenthesis
test-returns-in_err-lists-in-Parenthesis t c =
    let e = err_from_is_err_and c.from_residual-in_err-lists-in-Parenthesis.result c.from_residual-in_err-lists-in-Parenthesis.ensures.1 in
    let same = ap (λ (all : Condition). alternatives c.args.names.now all c.args.patterns.now) c.as_slice.ensures in
    rw (e.1, e.2) (parenthesis_refused c.args.names.now c.args.written.now c.in-Parenthesis.inner c.args.patterns.now c.in_err-lists-in-Parenthesis.field-0.0 c.in-Parenthesis.is
    (subst (λ (r : Result (With Alternatives) Refusal). IsRefused c.in_err-lists-in-Parenthesis.field-0.0 r) same c.in_err-lists-in-Parenthesis.ensures))

pub test-returns-in_ok-lists-in-Parenthesis : goal.test-returns-in_ok-lists-in-Parenthesis
test-returns-in_ok-lists-in-Parenthesis t c =
    let made = with_patterns c.in_ok-lists-in-Parenthesis.lists c.alternatives.new.patterns in
    let same = ap (λ (all : Condition). alternatives c.args.names.now all c.args.patterns.now) c.as_slice.ensures in
    parenthesis_made c.args.names.now c.args.written.now c.in-Parenthesis.inner c.args.patterns.now made c.in-Parenthesis.is (sym same ∙ c.in_ok-lists-in-Parenthesis.ensures)
