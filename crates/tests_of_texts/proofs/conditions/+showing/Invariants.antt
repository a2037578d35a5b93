use Rattle.std.proofs.Common.{◌+◌, ◌*◌}
use Rattle.form_base.proofs.Heights.{height, height_of, height_of_all}
use Rattle.tests_of_texts.proofs.conditions.+showing.Given as goal

-- each call goes one function further, or into a parenthesis

abbrev pub decreases-show_enclosed : goal.decreases-show_enclosed
decreases-show_enclosed l = height_of l.condition.now * 4 + 3

abbrev pub decreases-show : goal.decreases-show
decreases-show l = height_of l.condition.now * 4 + 2

abbrev pub decreases-show_all : goal.decreases-show_all
decreases-show_all l = height_of_all l.tests.now * 4 + 1

abbrev pub decreases-show_test : goal.decreases-show_test
decreases-show_test l = height l.test.now * 4
