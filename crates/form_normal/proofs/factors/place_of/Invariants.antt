use Rattle.std.proofs.Common.{length}
use Rattle.form_normal.proofs.Places.{Placing}
use Rattle.form_normal.proofs.factors.place_of.Given as goal

abbrev pub invariant-loop-last : goal.invariant-loop-last
invariant-loop-last l = Placing l.calls l.rest l.call

abbrev pub decreases-loop-last : goal.decreases-loop-last
decreases-loop-last l = length l.rest
