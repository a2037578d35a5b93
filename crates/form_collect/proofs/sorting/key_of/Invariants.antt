use Rattle.form_collect.specs.Keys.{key_of}
use Rattle.form_collect.proofs.Digits.{IsBegunKey}
use Rattle.form_collect.proofs.sorting.key_of.Given as goal

abbrev pub invariant-loop-left : goal.invariant-loop-left
invariant-loop-left l = IsBegunKey (key_of l.fn.first l.fn.term) l.left l.symbol l.rest l.is_open l.key

abbrev pub decreases-loop-left : goal.decreases-loop-left
decreases-loop-left l = l.left
