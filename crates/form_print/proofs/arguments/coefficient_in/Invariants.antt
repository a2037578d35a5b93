-- What is left gives the coefficient.
use Rattle.std.proofs.Common.{◌≡◌, ◌≤◌, suc, drop}
use Rattle.form_print.specs.Arguments as printing
use Rattle.form_print.proofs.arguments.coefficient_in.Given as goal

abbrev pub invariant-loop-piece : goal.invariant-loop-piece
invariant-loop-piece l = (l.level ≤ suc l.piece-index) × (printing.coefficient_in l.level (drop l.piece-index l.pieces) ≡ printing.coefficient_in l.functions l.pieces)
