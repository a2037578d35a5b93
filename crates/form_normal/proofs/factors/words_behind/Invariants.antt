use Rattle.std.proofs.Common.{length}
use Rattle.form_normal.specs.Factors.{words_put}
use Rattle.form_normal.proofs.Words.{Putting}
use Rattle.form_normal.proofs.factors.words_behind.Given as goal

abbrev pub invariant-loop-call : goal.invariant-loop-call
invariant-loop-call l = Putting (words_put l.fn.words l.fn.term) l.made l.rest

abbrev pub decreases-loop-call : goal.decreases-loop-call
decreases-loop-call l = length l.rest
