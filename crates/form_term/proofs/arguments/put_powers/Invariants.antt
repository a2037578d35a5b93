-- What was put and what is left are the whole.
use Rattle.std.proofs.Common.{◌≡◌, ◌++◌, map, drop}
use Rattle.form_term.specs.Pieces.{piece_of_power}
use Rattle.form_term.proofs.arguments.put_powers.Given as goal

abbrev pub invariant-loop-power : goal.invariant-loop-power
invariant-loop-power l = l.pieces.items ++ map piece_of_power (drop l.power-index l.powers) ≡ l.initial.pieces.items ++ map piece_of_power l.powers
