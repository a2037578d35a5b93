-- What was put and what is left are the whole.
use Rattle.std.proofs.Common.{◌≡◌, ◌++◌, drop}
use Rattle.std.specs.Prelude.{flat_map}
use Rattle.form_term.specs.declared.piece.Piece.TheVariants as pieces
use Rattle.form_term.specs.Term.{pieces_of_call}
use Rattle.form_term.proofs.arguments.put_word.Given as goal

abbrev pub invariant-loop-call : goal.invariant-loop-call
invariant-loop-call l = l.pieces.items ++ flat_map (pieces_of_call pieces.NonCommuting) (drop l.call-index l.calls) ≡ l.initial.pieces.items ++ flat_map (pieces_of_call pieces.NonCommuting) l.calls
