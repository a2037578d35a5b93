-- What is made and what is left of both, in order, is the whole.
use Rattle.std.proofs.Common.{◌≡◌, ◌+◌, ◌-◌, ◌≤◌, ◌++◌, length, drop}
use Rattle.form_term.specs.Term.{RisesBy}
use Rattle.form_normal.specs.Lists.{in_order}
use Rattle.form_normal.proofs.merging.in_order.Given as goal

abbrev pub invariant-loop-i : goal.invariant-loop-i
invariant-loop-i g l =
    (l.i ≤ length l.left) × (l.j ≤ length l.right)
    × RisesBy g.T.Ord.cmp (drop l.i l.left) × RisesBy g.T.Ord.cmp (drop l.j l.right)
    × (l.list.items ++ in_order g.T.Ord.cmp (drop l.i l.left ++ drop l.j l.right) ≡ in_order g.T.Ord.cmp (l.left ++ l.right))

abbrev pub decreases-loop-i : goal.decreases-loop-i
decreases-loop-i g l = (length l.left - l.i) + (length l.right - l.j)
