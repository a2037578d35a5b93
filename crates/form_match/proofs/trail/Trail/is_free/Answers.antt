use Rattle.std.proofs.Common.{true, false, not, sym, ap, ◌∙◌}
use Rattle.form_match.proofs.Taking.{free_here, free_end}
use Rattle.form_match.proofs.trail.Trail.is_free.Goals as goal

pub returns-then-is_taken_by : goal.returns-then-is_taken_by
returns-then-is_taken_by c =
    sym (ap not (c.loop-taken.invariant ∙ free_here c.as_slice-taken-items.result.now c.args.host c.loop-taken.taken-index c.taken-item.result c.args.one.now true c.loop-taken-test.true c.taken-item.is c.if-is_taken_by.ensures))

pub loop-taken-preserved : goal.loop-taken-preserved
loop-taken-preserved c =
    c.loop-taken.invariant ∙ free_here c.as_slice-taken-items.result.now c.args.host c.loop-taken.taken-index c.taken-item.result c.args.one.now false c.loop-taken-test.true c.taken-item.is c.if-is_taken_by.ensures

pub returns : goal.returns
returns c = sym (ap not (c.loop-taken.invariant ∙ free_end c.as_slice-taken-items.result.now c.args.host c.loop-taken.taken-index c.args.one.now c.loop-taken-test.false))
