use Rattle.std.proofs.Common.{length}
use Rattle.form_normal.proofs.Sums.{Making}
use Rattle.form_normal.proofs.several.summed_dots.Given as goal

abbrev pub invariant-loop-first : goal.invariant-loop-first
invariant-loop-first l = Making l.fn.dots.items l.made.items l.rest

abbrev pub decreases-loop-first : goal.decreases-loop-first
decreases-loop-first l = length l.rest
