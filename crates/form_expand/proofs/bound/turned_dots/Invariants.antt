-- What was put and what is left are the whole.
use Rattle.std.proofs.Common.{◌≡◌, ◌++◌, map, drop}
use Rattle.form_expand.specs.Bound.{turned_dot}
use Rattle.form_expand.proofs.bound.turned_dots.Given as goal

abbrev pub invariant-loop-dot : goal.invariant-loop-dot
invariant-loop-dot l = l.turned.items ++ map turned_dot (drop l.dot-index l.dots) ≡ map turned_dot l.dots
