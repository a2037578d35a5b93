use Rattle.std.proofs.Common.{◌≡◌, length}
use Rattle.form_right_side.specs.RightSide.{wrong, spelled_of, first_misplaced}
use Rattle.form_pattern.proofs.putting.misplaced_in.Given as goal

abbrev pub invariant-loop-rest : goal.invariant-loop-rest
invariant-loop-rest l = first_misplaced l.names l.rest (wrong (spelled_of l.owner)) ≡ first_misplaced l.names l.list (wrong (spelled_of l.owner))

abbrev pub decreases-loop-rest : goal.decreases-loop-rest
decreases-loop-rest l = length l.rest
