use Rattle.std.proofs.Common.{◌+◌, ◌≤◌, length}
use Rattle.form_expand.proofs.literal_arguments.room_for.Given as goal

-- at most one more for each piece so far
abbrev pub invariant-loop-piece : goal.invariant-loop-piece
invariant-loop-piece l = l.room ≤ length l.pieces + l.piece-index
