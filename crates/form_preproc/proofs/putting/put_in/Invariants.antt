use Rattle.std.proofs.Common.{length}
use Rattle.form_preproc.specs.Kept.{kept_in}
use Rattle.form_preproc.proofs.Reading.{IsReadTo}
use Rattle.form_preproc.proofs.putting.put_in.Given as goal

abbrev pub invariant-loop-before : goal.invariant-loop-before
invariant-loop-before l = IsReadTo (kept_in l.variables).values l.text l.rest l.is_long l.putting

abbrev pub decreases-loop-before : goal.decreases-loop-before
decreases-loop-before l = length l.rest
