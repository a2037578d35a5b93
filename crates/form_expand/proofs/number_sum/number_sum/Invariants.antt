use Rattle.std.proofs.Common.{length}
use Rattle.form_expand.proofs.NumberSums.{StandAlone, IsAddedTo}
use Rattle.form_expand.proofs.number_sum.number_sum.Given as goal

abbrev pub invariant-loop-piece : goal.invariant-loop-piece
invariant-loop-piece l = (law : StandAlone) → IsAddedTo l.limit l.names law l.fn.pieces l.adding l.rest

abbrev pub decreases-loop-piece : goal.decreases-loop-piece
decreases-loop-piece l = length l.rest
