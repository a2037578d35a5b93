use Rattle.form_gathered.proofs.Inputs.{StandSoFar}
use Rattle.form_gathered.proofs.batch.joined_inputs.Given as goal

-- the table stands for the inputs so far
abbrev pub invariant-loop-input : goal.invariant-loop-input
invariant-loop-input l = StandSoFar l.inputs l.table l.input-index
