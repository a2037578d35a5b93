use Rattle.std.proofs.Common.{◌≡◌, drop}
use Rattle.form_term.specs.Term.{is_nil}
use Rattle.form_match.specs.Left.{untaken}
use Rattle.form_match.specs.Taken.{takes_thing}
use Rattle.form_match.proofs.Remaining.{untaken_from}
use Rattle.form_match.proofs.whole.are_left.Given as goal

abbrev pub invariant-loop-one : goal.invariant-loop-one
invariant-loop-one g l = record {
  at : l.place ≡ l._one-index;
  same : is_nil (untaken (takes_thing l.of) l.takes l.list) ≡ is_nil (untaken_from l.place (takes_thing l.of) l.takes (drop l._one-index l.list));
}
