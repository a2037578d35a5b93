use Rattle.form_preproc.proofs.Changes.{AreFilled}
use Rattle.form_preproc.proofs.journal.fill_firsts.Given as goal

abbrev pub invariant-loop-at : goal.invariant-loop-at
invariant-loop-at l = AreFilled l.changes l.at l.initial.firsts l.firsts

abbrev pub decreases-loop-at : goal.decreases-loop-at
decreases-loop-at l = l.at
