use Rattle.std.proofs.Common.{◌≡◌, drop}
use Rattle.form_term.specs.Term.{exponent_in}
use Rattle.form_cond.proofs.count.exponent_in.Given as goal

-- none of those before was of the symbol
abbrev pub invariant-loop-power : goal.invariant-loop-power
invariant-loop-power l = exponent_in (drop l.power-index l.powers) l.symbol ≡ exponent_in l.powers l.symbol
