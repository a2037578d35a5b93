use Rattle.std.proofs.Common.{◌≡◌, drop}
use Rattle.form_term.specs.Term.{exponent_in}
use Rattle.form_match.proofs.choices.is_absent.Given as goal

abbrev pub invariant-loop-power : goal.invariant-loop-power
invariant-loop-power l = exponent_in l.powers l.symbol ≡ exponent_in (drop l.power-index l.powers) l.symbol
