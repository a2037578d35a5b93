use Rattle.std.proofs.Common.{◌≡◌, length}
use Rattle.form_lines.specs.Program.{after_blanks as after_blanks_of}
use Rattle.form_preproc.proofs.bytes.after_blanks.Given as goal

abbrev pub invariant-loop-rest : goal.invariant-loop-rest
invariant-loop-rest l = after_blanks_of l.rest ≡ after_blanks_of l.text

abbrev pub decreases-loop-rest : goal.decreases-loop-rest
decreases-loop-rest l = length l.rest
