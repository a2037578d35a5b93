use Rattle.std.proofs.Common.{◌≡◌, length}
use Rattle.form_right_side.specs.RightSide.{wrong, spelled_of}
use Rattle.form_right_side.specs.Walking.{misplaced_to_end}
use Rattle.form_right_side.proofs.ahead.misplaced_in.Given as goal

abbrev pub invariant-loop-rest : goal.invariant-loop-rest
invariant-loop-rest l = misplaced_to_end l.names l.rest (wrong (spelled_of l.owner)) ≡ misplaced_to_end l.names l.list (wrong (spelled_of l.owner))

abbrev pub decreases-loop-rest : goal.decreases-loop-rest
decreases-loop-rest l = length l.rest
