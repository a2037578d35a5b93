use Rattle.std.proofs.Common.{◌≡◌, ◌++◌, drop}
use Rattle.form_match.specs.Left.{dots_left}
use Rattle.form_match.proofs.Remaining.{dots_from}
use Rattle.form_match.proofs.left.dots_left.Given as goal

abbrev pub invariant-loop-dot : goal.invariant-loop-dot
invariant-loop-dot l = record {
  at : l.place ≡ l.dot-index;
  made : l.left.items ++ dots_from l.place l.takes (drop l.dot-index l.dots) ≡ dots_left l.takes l.dots;
}
