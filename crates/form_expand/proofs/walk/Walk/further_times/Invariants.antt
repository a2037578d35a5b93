use Rattle.std.proofs.Common.{◌≡◌, ◌-◌, length}
use Rattle.form_expand.specs.Kept.{kept_terms, listing}
use Rattle.form_expand.specs.Left.{times_by}
use Rattle.form_expand.specs.Walks.{walk_left}
use Rattle.form_expand.proofs.walk.Walk.further_times.Given as goal

abbrev pub invariant-loop-term : goal.invariant-loop-term
invariant-loop-term l = record {
  left : times_by l.left (walk_left l.limit l.self) ≡ times_by l.left (walk_left l.limit l.initial.self);
  whole : listing l.self.whole ≡ listing l.initial.self.whole;
}

abbrev pub decreases-loop-term : goal.decreases-loop-term
decreases-loop-term l = length (kept_terms l.self.whole.kept) - l.self.place
