use Rattle.std.proofs.Common.{◌≡◌, length}
use Rattle.form_calc.specs.Reading as reading
use Rattle.form_calc.proofs.blanks.after_blanks.Given as goal

abbrev pub invariant-loop-rest : goal.invariant-loop-rest
invariant-loop-rest l = reading.after_blanks l.rest ≡ reading.after_blanks l.text

abbrev pub decreases-loop-rest : goal.decreases-loop-rest
decreases-loop-rest l = length l.rest
