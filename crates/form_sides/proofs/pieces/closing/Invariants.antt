use Rattle.std.proofs.Common.{◌≡◌, ◌≤◌, drop}
use Rattle.form_expand.specs.Closings.{closing_at}
use Rattle.form_sides.proofs.pieces.closing.Given as goal

abbrev pub invariant-loop-place : goal.invariant-loop-place
invariant-loop-place l = record {
  place : closing_at l.place l.depth (drop l.place l.pieces) ≡ closing_at 0 0 l.pieces;
  deep : l.depth ≤ l.place;
}
