-- What is left of both decides, and is as a term's powers are.
use Rattle.std.proofs.Common.{drop}
use Rattle.std.specs.Slice.Iter.{iter_rest}
use Rattle.form_term.proofs.Left.{Decide}
use Rattle.form_term.proofs.order.compare_symbols.Given as goal

abbrev pub invariant-loop-l : goal.invariant-loop-l
invariant-loop-l l = (goal.iterator-loop-l).can_next l.rest × (goal.iterator-loop-l).is_finite l.rest × Decide l.left l.right (drop l.l-index l.left) (iter_rest l.rest)
