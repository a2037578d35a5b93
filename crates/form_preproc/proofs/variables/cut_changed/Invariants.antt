use Rattle.std.proofs.Common.{take}
use Rattle.form_preproc.proofs.Cutting.{AreCutTo}
use Rattle.form_preproc.proofs.variables.cut_changed.Given as goal

abbrev pub invariant-loop-change : goal.invariant-loop-change
invariant-loop-change l = AreCutTo (take l.change-index l.changes) l.firsts l.initial.stacks l.stacks l.cut
