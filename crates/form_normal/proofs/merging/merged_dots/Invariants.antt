-- What is made and the product of what is left of both is the whole.
use Rattle.std.proofs.Common.{◌≡◌, ◌+◌, ◌-◌, ◌≤◌, ◌++◌, length, drop}
use Rattle.std.specs.List.Sorted.{IsStrictlySortedBy}
use Rattle.form_term.specs.Term.{pair_order}
use Rattle.form_normal.specs.Lists.{dots_product}
use Rattle.form_normal.proofs.merging.merged_dots.Given as goal

abbrev pub invariant-loop-i : goal.invariant-loop-i
invariant-loop-i l =
    (l.i ≤ length l.left) × (l.j ≤ length l.right)
    × IsStrictlySortedBy pair_order (drop l.i l.left) × IsStrictlySortedBy pair_order (drop l.j l.right)
    × (l.dots.items ++ dots_product (drop l.i l.left ++ drop l.j l.right) ≡ dots_product (l.left ++ l.right))

abbrev pub decreases-loop-i : goal.decreases-loop-i
decreases-loop-i l = (length l.left - l.i) + (length l.right - l.j)
