use Rattle.std.proofs.Common.{◌≡◌, ◌+◌, ◌<◌, ◌≤◌, ◌^◌, length}
use Rattle.form_right_side.specs.Parting.{open_behind}
use Rattle.form_right_side.proofs.sides.open_behind.Given as goal

abbrev pub invariant-loop-rest : goal.invariant-loop-rest
invariant-loop-rest l = record {
  room : l.opened + length l.rest < 2 ^ 64;
  few : l.opened + length l.rest ≤ l.fn.before + length l.list;
  same : open_behind l.opened l.rest ≡ open_behind l.fn.before l.list;
}

abbrev pub decreases-loop-rest : goal.decreases-loop-rest
decreases-loop-rest l = length l.rest
