use Rattle.std.proofs.Common.{true, false, not, sym, ap, ◌∙◌, arith}
use Rattle.form_match.proofs.Wholly.{dots_here, dots_done}
use Rattle.form_match.proofs.whole.are_dots_left.Goals as goal

pub returns-then-is_dot_left : goal.returns-then-is_dot_left
returns-then-is_dot_left c =
    sym (ap not (c.loop-dot.invariant.same ∙ dots_here c.args.takes.now c.args.dots.now c.loop-dot.place c.loop-dot.dot-index c.dot-item.result true c.loop-dot-test.true c.dot-item.is c.if-is_dot_left.ensures))

pub loop-dot-preserved : goal.loop-dot-preserved
loop-dot-preserved c = record {
  at = omega (arith, c.loop-dot.invariant.at);
  same = c.loop-dot.invariant.same ∙ dots_here c.args.takes.now c.args.dots.now c.loop-dot.place c.loop-dot.dot-index c.dot-item.result false c.loop-dot-test.true c.dot-item.is c.if-is_dot_left.ensures;
}

pub returns : goal.returns
returns c = sym (ap not (c.loop-dot.invariant.same ∙ dots_done c.args.takes.now c.args.dots.now c.loop-dot.place c.loop-dot.dot-index c.loop-dot-test.false))
