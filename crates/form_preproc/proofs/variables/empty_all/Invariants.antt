use Rattle.form_preproc.proofs.Cutting.{AreEmptyTo}
use Rattle.form_preproc.proofs.variables.empty_all.Given as goal

abbrev pub invariant-loop-place : goal.invariant-loop-place
invariant-loop-place l = AreEmptyTo l.place l.initial.stacks l.stacks
