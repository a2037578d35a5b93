-- What was put and what is left are the whole.
use Rattle.std.proofs.Common.{◌≡◌, ◌++◌, map, drop}
use Rattle.form_term.specs.declared.piece.Piece.TheVariants as pieces
use Rattle.form_term.proofs.arguments.put_deltas.Given as goal

abbrev pub invariant-loop-delta : goal.invariant-loop-delta
invariant-loop-delta l = l.pieces.items ++ map pieces.Delta (drop l.delta-index l.deltas) ≡ l.initial.pieces.items ++ map pieces.Delta l.deltas
