-- What was found so far and what is left give the depth.
use Rattle.std.proofs.Common.{◌≡◌, ◌≤◌, drop}
use Rattle.std.specs.Prelude.{max}
use Rattle.form_term.specs.Pieces.{deepest}
use Rattle.form_term.proofs.call.depth_of.Given as goal

abbrev pub invariant-loop-piece : goal.invariant-loop-piece
invariant-loop-piece l = (l.level ≤ l.piece-index) × (max l.depth (deepest l.level (drop l.piece-index l.pieces)) ≡ deepest 0 l.pieces)
