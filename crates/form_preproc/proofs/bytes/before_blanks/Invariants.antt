use Rattle.std.proofs.Common.{◌≡◌, length}
use Rattle.form_preproc.specs.Bytes as bytes
use Rattle.form_preproc.proofs.bytes.before_blanks.Given as goal

abbrev pub invariant-loop-rest : goal.invariant-loop-rest
invariant-loop-rest l = bytes.before_blanks l.rest ≡ bytes.before_blanks l.text

abbrev pub decreases-loop-rest : goal.decreases-loop-rest
decreases-loop-rest l = length l.rest
