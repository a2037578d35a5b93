use Rattle.std.proofs.Common.{ap, ◌∙◌, arith}
use Rattle.form_base.proofs.Heights.{height, height_of, height_of_all, height_parenthesis, no_higher}
use Rattle.tests_of_texts.proofs.conditions.+showing.Goals as goal

pub show-show_all-requires : goal.show-show_all-requires
show-show_all-requires t c =
    let e = ap height_of_all (c.as_slice.ensures ∙ c.index-condition-place.is) in
    let a = no_higher height_of_all c.args.condition.now c.loop-place.place c.index-condition-place.result c.loop-place-test.true in
    (omega (arith, a, e, c.decreases), tt)

pub show_all-show_test-requires : goal.show_all-show_test-requires
show_all-show_test-requires t c =
    let e = ap height c.index-tests-place.is in
    let a = no_higher height c.args.tests.now c.loop-place.place c.index-tests-place.result c.loop-place-test.true in
    (omega (arith, a, e, c.decreases), tt)

pub show_test-show_enclosed-requires : goal.show_test-show_enclosed-requires
show_test-show_enclosed-requires t c =
    let e = ap height_of c.as_slice.ensures in
    let a = ap height c.in-Parenthesis.is in
    let b = height_parenthesis c.in-Parenthesis.condition in
    (omega (arith, a, b, e, c.decreases), tt)
