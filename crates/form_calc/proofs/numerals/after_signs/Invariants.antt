use Rattle.std.proofs.Common.{◌≡◌, length}
use Rattle.form_calc.specs.Calculation as calculation
use Rattle.form_calc.proofs.numerals.after_signs.Given as goal

abbrev pub invariant-loop-rest : goal.invariant-loop-rest
invariant-loop-rest l = calculation.after_signs l.rest ≡ calculation.after_signs l.text

abbrev pub decreases-loop-rest : goal.decreases-loop-rest
decreases-loop-rest l = length l.rest
