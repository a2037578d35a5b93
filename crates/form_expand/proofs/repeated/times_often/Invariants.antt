use Rattle.std.proofs.Common.{◌≡◌}
use Rattle.form_expand.specs.Often.{often}
use Rattle.form_expand.proofs.repeated.times_often.Given as goal

abbrev pub invariant-loop-left : goal.invariant-loop-left
invariant-loop-left l = often l.front l.term l.left ≡ often l.fn.front l.term l.fn.times

abbrev pub decreases-loop-left : goal.decreases-loop-left
decreases-loop-left l = l.left
