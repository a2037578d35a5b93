use Rattle.std.proofs.Common.{◌≡◌, ◌+◌, ◌≤◌, length}
use Rattle.form_right_side.specs.Walking.{is_single as is_single_at}
use Rattle.form_right_side.proofs.ahead.is_single.Given as goal

abbrev pub invariant-loop-rest : goal.invariant-loop-rest
invariant-loop-rest l = record {
  room : l.opened + length l.rest ≤ length l.list;
  same : is_single_at l.opened l.rest ≡ is_single_at 0 l.list;
}

abbrev pub decreases-loop-rest : goal.decreases-loop-rest
decreases-loop-rest l = length l.rest
