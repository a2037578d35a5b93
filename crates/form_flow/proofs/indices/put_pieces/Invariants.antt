-- What was put and what is left are the whole.
use Rattle.std.proofs.Common.{◌≡◌, ◌++◌, drop}
use Rattle.std.specs.Prelude.{flat_map}
use Rattle.form_flow.specs.Indices.{indices_of_piece}
use Rattle.form_flow.proofs.indices.put_pieces.Given as goal

abbrev pub invariant-loop-piece : goal.invariant-loop-piece
invariant-loop-piece l = l.list.items ++ flat_map indices_of_piece (drop l.piece-index l.pieces) ≡ l.initial.list.items ++ flat_map indices_of_piece l.pieces
