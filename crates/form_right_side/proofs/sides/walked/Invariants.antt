use Rattle.std.proofs.Common.{◌≡◌, ◌+◌, ◌<◌, ◌≤◌, ◌^◌, length}
use Rattle.form_right_side.specs.Marks.{stands_in}
use Rattle.form_right_side.specs.Walking.{walk_of, walked}
use Rattle.form_right_side.proofs.sides.walked.Given as goal

-- what is left goes on from what was made so far
abbrev pub invariant-loop-rest : goal.invariant-loop-rest
invariant-loop-rest l = record {
  room : l.walk.calls + length l.rest < 2 ^ 64;
  few : l.walk.calls + length l.rest ≤ l.fn.walk.calls + length l.list;
  same : walked l.names (stands_in l.standing) l.known (walk_of l.walk) l.rest ≡ walked l.names (stands_in l.standing) l.known (walk_of l.fn.walk) l.list;
}

abbrev pub decreases-loop-rest : goal.decreases-loop-rest
decreases-loop-rest l = length l.rest
