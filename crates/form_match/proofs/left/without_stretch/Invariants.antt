use Rattle.std.proofs.Common.{◌≡◌, ◌≤◌, ◌+◌, ◌-◌, ◌++◌, take, drop}
use Rattle.form_match.proofs.left.without_stretch.Given as goal

abbrev pub invariant-loop-gone : goal.invariant-loop-gone
invariant-loop-gone l = (l.gone ≤ l.count) × (l.left.items ≡ take l.start l.fn.word.items ++ drop (l.start + l.gone) l.fn.word.items)

abbrev pub decreases-loop-gone : goal.decreases-loop-gone
decreases-loop-gone l = l.count - l.gone
