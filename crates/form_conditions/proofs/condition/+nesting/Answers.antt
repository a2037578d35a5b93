use Rattle.std.proofs.Common.{Bool, Option, List, cond, ap, sym, subst, ◌∙◌}
use Rattle.std.proofs.lemmas.Result.{err_from_is_err_and}
use Rattle.form_ast.specs.Conditions.{Test}
use Rattle.form_grammar.specs.Reading.{Gives}
use Rattle.form_grammar.specs.declared.terminal.Terminal.{Terminal}
use Rattle.form_grammar.specs.declared.terminal.Terminal.TheVariants as by_terminal
use Rattle.form_conditions.specs.declared.tokens.Wanted.TheVariants.{And, Or}
use Rattle.form_conditions.specs.Grammar.{AreJoined, IsTestText}
use Rattle.form_conditions.specs.Reading.{alternatives, conjunction, test}
use Rattle.form_conditions.specs.Tokens.{left, tail_of}
use Rattle.form_conditions.proofs.Fronts.{and_mark, beside, or_mark}
use Rattle.form_conditions.proofs.Separated.{loop_goes, loop_shorter, loop_stops, loop_unread}
use Rattle.form_conditions.proofs.Sound.{conjunction_sound, test_sound}
use Rattle.form_conditions.proofs.Testing.{test_opened, test_plain}
use Rattle.form_conditions.proofs.condition.+nesting.Goals as goal

-- ---- tests

pub test-returns-then-takes : goal.test-returns-then-takes
test-returns-then-takes t c =
    let text = left c.args.tokens.now in
    subst (λ (o : Option (Test × List Terminal)). Gives (beside (left c.parenthesized.new.tokens)) c.parenthesized.result o)
    (test_opened c.args.deeper text (left c.takes.new.self) (sym c.takes.ensures.takes ∙ c.if-takes.true) (c.takes.ensures.rest ∙ ap (λ (b : Bool). cond b (tail_of text) text) c.if-takes.true))
    c.parenthesized.ensures

pub test-returns : goal.test-returns
test-returns t c =
    let text = left c.args.tokens.now in
    subst (λ (o : Option (Test × List Terminal)). Gives (beside (left c.plain_test.new.tokens)) c.plain_test.result o)
    (test_plain c.args.deeper text (left c.takes.new.self) (sym c.takes.ensures.takes ∙ c.if-takes.false) (c.takes.ensures.rest ∙ ap (λ (b : Bool). cond b (tail_of text) text) c.if-takes.false))
    c.plain_test.ensures

-- ---- tests joined by `&&`

pub conjunction-returns-in_err-next : goal.conjunction-returns-in_err-next
conjunction-returns-in_err-next t c =
    let d = c.args.deeper in
    let e = err_from_is_err_and c.from_residual.result c.from_residual.ensures.1 in
    rw (e.1, e.2) (loop_unread (IsTestText d) (test d) And by_terminal.And and_mark (test_sound c.pattern_is_read.ensures d) c.in_err-next.field-0.0 c.loop-tests.tests (left c.loop-tests.tokens) (conjunction d (left c.args.tokens.now))
    c.loop-tests.invariant c.in_err-next.ensures)

pub conjunction-returns-then-not-takes : goal.conjunction-returns-then-not-takes
conjunction-returns-then-not-takes t c =
    let d = c.args.deeper in
    let more = left c.test.new.tokens in
    loop_stops (IsTestText d) (test d) And by_terminal.And and_mark (test_sound c.pattern_is_read.ensures d) c.loop-tests.tests c.push.new.self (left c.loop-tests.tokens) more (left c.takes.new.self) c.in_ok-next.next (conjunction d (left c.args.tokens.now))
    c.loop-tests.invariant c.in_ok-next.ensures (sym c.takes.ensures.takes ∙ c.if-not-takes.true) c.in_ok-push.ensures.ok
    (c.takes.ensures.rest ∙ ap (λ (b : Bool). cond b (tail_of more) more) c.if-not-takes.true)

pub conjunction-loop-tests-preserved : goal.conjunction-loop-tests-preserved
conjunction-loop-tests-preserved t c =
    let d = c.args.deeper in
    let more = left c.test.new.tokens in
    loop_goes (IsTestText d) (test d) And by_terminal.And and_mark (test_sound c.pattern_is_read.ensures d) c.loop-tests.tests c.push.new.self (left c.loop-tests.tokens) more (left c.takes.new.self) c.in_ok-next.next (conjunction d (left c.args.tokens.now))
    c.loop-tests.invariant c.in_ok-next.ensures (sym c.takes.ensures.takes ∙ c.if-not-takes.false) c.in_ok-push.ensures.ok
    (c.takes.ensures.rest ∙ ap (λ (b : Bool). cond b (tail_of more) more) c.if-not-takes.false)

pub conjunction-loop-tests-smaller : goal.conjunction-loop-tests-smaller
conjunction-loop-tests-smaller t c =
    let d = c.args.deeper in
    let more = left c.test.new.tokens in
    loop_shorter (IsTestText d) (test d) And by_terminal.And and_mark (test_sound c.pattern_is_read.ensures d) (left c.loop-tests.tokens) more (left c.takes.new.self) c.in_ok-next.next
    c.in_ok-next.ensures (sym c.takes.ensures.takes ∙ c.if-not-takes.false) (c.takes.ensures.rest ∙ ap (λ (b : Bool). cond b (tail_of more) more) c.if-not-takes.false)

-- ---- such lists joined by `||`

pub alternatives-returns-in_err-next : goal.alternatives-returns-in_err-next
alternatives-returns-in_err-next t c =
    let d = c.args.deeper in
    let e = err_from_is_err_and c.from_residual.result c.from_residual.ensures.1 in
    rw (e.1, e.2) (loop_unread (AreJoined (IsTestText d) by_terminal.And) (conjunction d) Or by_terminal.Or or_mark (conjunction_sound c.pattern_is_read.ensures d) c.in_err-next.field-0.0 c.loop-lists.lists (left c.loop-lists.tokens) (alternatives d (left c.args.tokens.now))
    c.loop-lists.invariant c.in_err-next.ensures)

pub alternatives-returns-then-not-takes : goal.alternatives-returns-then-not-takes
alternatives-returns-then-not-takes t c =
    let d = c.args.deeper in
    let more = left c.conjunction.new.tokens in
    loop_stops (AreJoined (IsTestText d) by_terminal.And) (conjunction d) Or by_terminal.Or or_mark (conjunction_sound c.pattern_is_read.ensures d) c.loop-lists.lists c.push.new.self (left c.loop-lists.tokens) more (left c.takes.new.self) c.in_ok-next.next (alternatives d (left c.args.tokens.now))
    c.loop-lists.invariant c.in_ok-next.ensures (sym c.takes.ensures.takes ∙ c.if-not-takes.true) c.in_ok-push.ensures.ok
    (c.takes.ensures.rest ∙ ap (λ (b : Bool). cond b (tail_of more) more) c.if-not-takes.true)

pub alternatives-loop-lists-preserved : goal.alternatives-loop-lists-preserved
alternatives-loop-lists-preserved t c =
    let d = c.args.deeper in
    let more = left c.conjunction.new.tokens in
    loop_goes (AreJoined (IsTestText d) by_terminal.And) (conjunction d) Or by_terminal.Or or_mark (conjunction_sound c.pattern_is_read.ensures d) c.loop-lists.lists c.push.new.self (left c.loop-lists.tokens) more (left c.takes.new.self) c.in_ok-next.next (alternatives d (left c.args.tokens.now))
    c.loop-lists.invariant c.in_ok-next.ensures (sym c.takes.ensures.takes ∙ c.if-not-takes.false) c.in_ok-push.ensures.ok
    (c.takes.ensures.rest ∙ ap (λ (b : Bool). cond b (tail_of more) more) c.if-not-takes.false)

pub alternatives-loop-lists-smaller : goal.alternatives-loop-lists-smaller
alternatives-loop-lists-smaller t c =
    let d = c.args.deeper in
    let more = left c.conjunction.new.tokens in
    loop_shorter (AreJoined (IsTestText d) by_terminal.And) (conjunction d) Or by_terminal.Or or_mark (conjunction_sound c.pattern_is_read.ensures d) (left c.loop-lists.tokens) more (left c.takes.new.self) c.in_ok-next.next
    c.in_ok-next.ensures (sym c.takes.ensures.takes ∙ c.if-not-takes.false) (c.takes.ensures.rest ∙ ap (λ (b : Bool). cond b (tail_of more) more) c.if-not-takes.false)
