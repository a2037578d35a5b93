use Rattle.std.proofs.Common.{length}
use Rattle.form_preproc.proofs.Calculations.{IsDoneTo}
use Rattle.form_preproc.proofs.braces.calculated.Given as goal

abbrev pub invariant-loop-before : goal.invariant-loop-before
invariant-loop-before l = IsDoneTo l.text l.done l.rest

abbrev pub decreases-loop-before : goal.decreases-loop-before
decreases-loop-before l = length l.rest
