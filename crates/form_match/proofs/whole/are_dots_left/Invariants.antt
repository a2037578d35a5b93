use Rattle.std.proofs.Common.{◌≡◌, drop}
use Rattle.form_term.specs.Term.{is_nil}
use Rattle.form_match.specs.Left.{dots_left}
use Rattle.form_match.proofs.Remaining.{dots_from}
use Rattle.form_match.proofs.whole.are_dots_left.Given as goal

abbrev pub invariant-loop-dot : goal.invariant-loop-dot
invariant-loop-dot l = record {
  at : l.place ≡ l.dot-index;
  same : is_nil (dots_left l.takes l.dots) ≡ is_nil (dots_from l.place l.takes (drop l.dot-index l.dots));
}
