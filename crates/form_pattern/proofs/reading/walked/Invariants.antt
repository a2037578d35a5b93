use Rattle.std.proofs.Common.{◌≡◌, ◌+◌, ◌<◌, ◌^◌, length}
use Rattle.form_right_side.specs.Marks.{stands_in}
use Rattle.form_pattern.specs.PatternWalking as walking
use Rattle.form_pattern.proofs.reading.walked.Given as goal

-- what is left goes on from what was read so far
abbrev pub invariant-loop-rest : goal.invariant-loop-rest
invariant-loop-rest l = record {
  room : walking.open_at l.reading.place + length l.rest < 2 ^ 64;
  same : walking.walked l.names (stands_in l.standing) l.known.fields l.reading l.rest ≡ walking.walked l.names (stands_in l.standing) l.known.fields l.fn.reading l.list;
}

abbrev pub decreases-loop-rest : goal.decreases-loop-rest
decreases-loop-rest l = length l.rest
