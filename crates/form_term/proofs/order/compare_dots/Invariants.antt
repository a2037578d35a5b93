-- What is left of both decides.
use Rattle.std.proofs.Common.{◌≡◌, drop}
use Rattle.std.specs.Slice.Iter.{iter_rest}
use Rattle.form_term.specs.Term.{dots_order}
use Rattle.form_term.proofs.order.compare_dots.Given as goal

abbrev pub invariant-loop-l : goal.invariant-loop-l
invariant-loop-l l = (goal.iterator-loop-l).can_next l.rest × (goal.iterator-loop-l).is_finite l.rest × (dots_order l.left l.right ≡ dots_order (drop l.l-index l.left) (iter_rest l.rest))
