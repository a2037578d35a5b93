-- What was counted and what is left give the length.
use Rattle.std.proofs.Common.{◌≡◌, ◌≤◌, ◌+◌, drop}
use Rattle.form_print.specs.Arguments as printing
use Rattle.form_print.proofs.arguments.length_of_arguments.Given as goal

abbrev pub invariant-loop-piece : goal.invariant-loop-piece
invariant-loop-piece l = (l.level ≤ l.piece-index) × (l.length ≡ l.piece-index) × (l.length + printing.length_in l.level (drop l.piece-index l.pieces) ≡ printing.length_in 0 l.pieces)
