use Rattle.std.proofs.Common.{◌≡◌, ◌+◌, ◌*◌, suc, length}
use Rattle.form_conditions.specs.declared.tokens.Wanted.TheVariants.{And, Or}
use Rattle.form_conditions.specs.Reading.{alternatives, conjunction, separated, test}
use Rattle.form_conditions.specs.Tokens.{left}
use Rattle.form_conditions.proofs.condition.+nesting.Given as goal

-- each call goes one function further, or into a parenthesis

abbrev pub decreases-alternatives : goal.decreases-alternatives
decreases-alternatives l = l.deeper * 4 + 3

abbrev pub decreases-conjunction : goal.decreases-conjunction
decreases-conjunction l = l.deeper * 4 + 2

abbrev pub decreases-test : goal.decreases-test
decreases-test l = l.deeper * 4 + 1

abbrev pub decreases-parenthesized : goal.decreases-parenthesized
decreases-parenthesized l = l.deeper * 4

abbrev pub invariant-conjunction-loop-tests : goal.invariant-conjunction-loop-tests
invariant-conjunction-loop-tests l = separated (test l.deeper) And (suc (length (left l.tokens))) l.tests (left l.tokens) ≡ conjunction l.deeper (left l.initial.tokens)

abbrev pub decreases-conjunction-loop-tests : goal.decreases-conjunction-loop-tests
decreases-conjunction-loop-tests l = length (left l.tokens)

abbrev pub invariant-alternatives-loop-lists : goal.invariant-alternatives-loop-lists
invariant-alternatives-loop-lists l = separated (conjunction l.deeper) Or (suc (length (left l.tokens))) l.lists (left l.tokens) ≡ alternatives l.deeper (left l.initial.tokens)

abbrev pub decreases-alternatives-loop-lists : goal.decreases-alternatives-loop-lists
decreases-alternatives-loop-lists l = length (left l.tokens)
