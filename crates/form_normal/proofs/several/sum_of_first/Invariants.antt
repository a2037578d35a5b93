use Rattle.std.proofs.Common.{◌∷◌, length}
use Rattle.form_normal.proofs.Sums.{Summing}
use Rattle.form_normal.proofs.several.sum_of_first.Given as goal

abbrev pub invariant-loop-next : goal.invariant-loop-next
invariant-loop-next l = Summing l.fn.first (l.fn.first ∷ l.fn.behind) l.sum l.rest

abbrev pub decreases-loop-next : goal.decreases-loop-next
decreases-loop-next l = length l.rest
