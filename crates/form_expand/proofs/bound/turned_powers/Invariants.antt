-- What was put and what is left are the whole.
use Rattle.std.proofs.Common.{◌≡◌, ◌++◌, map, drop}
use Rattle.form_expand.specs.Bound.{turned_power}
use Rattle.form_expand.proofs.bound.turned_powers.Given as goal

abbrev pub invariant-loop-power : goal.invariant-loop-power
invariant-loop-power l = l.turned.items ++ map turned_power (drop l.power-index l.powers) ≡ map turned_power l.powers
