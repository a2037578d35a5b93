use Rattle.std.proofs.Common.{◌≡◌, drop}
use Rattle.form_match.specs.Left.{word_left}
use Rattle.form_match.proofs.left.word_left.Given as goal

abbrev pub invariant-loop-one : goal.invariant-loop-one
invariant-loop-one l = word_left (drop l.one-index l.takes) l.left.items ≡ word_left l.takes l.fn.word.items
