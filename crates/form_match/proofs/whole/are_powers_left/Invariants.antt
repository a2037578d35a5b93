use Rattle.std.proofs.Common.{◌≡◌, drop}
use Rattle.form_term.specs.Term.{is_nil}
use Rattle.form_match.specs.Left.{powers_left}
use Rattle.form_match.proofs.whole.are_powers_left.Given as goal

abbrev pub invariant-loop-power : goal.invariant-loop-power
invariant-loop-power l = is_nil (powers_left l.takes l.powers) ≡ is_nil (powers_left l.takes (drop l.power-index l.powers))
