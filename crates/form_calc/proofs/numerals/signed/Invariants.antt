use Rattle.std.proofs.Common.{◌≡◌, drop}
use Rattle.form_calc.specs.Calculation as calculation
use Rattle.form_calc.proofs.numerals.signed.Given as goal

abbrev pub invariant-loop-byte : goal.invariant-loop-byte
invariant-loop-byte l = calculation.signed l.text l.fn.number ≡ calculation.signed (drop l.byte-index l.text) l.value
