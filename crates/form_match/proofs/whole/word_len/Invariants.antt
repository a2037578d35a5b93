use Rattle.std.proofs.Common.{◌≡◌, drop}
use Rattle.form_match.specs.Whole.{length_left}
use Rattle.form_match.proofs.whole.word_len.Given as goal

abbrev pub invariant-loop-one : goal.invariant-loop-one
invariant-loop-one l = length_left (drop l.one-index l.takes) l.left ≡ length_left l.takes l.length
