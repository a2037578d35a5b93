use Rattle.std.proofs.Common.{◌≡◌, length}
use Rattle.form_match.specs.Factors.{may_begin}
use Rattle.form_match.proofs.choices.may_begin.Given as goal

abbrev pub invariant-loop-name : goal.invariant-loop-name
invariant-loop-name l = may_begin l.rest l.asked ≡ may_begin l.word l.pieces

abbrev pub decreases-loop-name : goal.decreases-loop-name
decreases-loop-name l = length l.asked
