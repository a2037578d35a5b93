use Rattle.std.proofs.Common.{◌≡◌, ℕ, ◌<◌, ◌≤◌, ◌-◌, ◌^◌, false}
use Rattle.form_match.specs.Factors.{is_free}
use Rattle.form_match.specs.Places.{uses_at}
use Rattle.form_match.proofs.factors.free_candidate.Given as goal

abbrev pub invariant-loop-candidate : goal.invariant-loop-candidate
invariant-loop-candidate l = record {
  further : l.fn.from ≤ l.from;
  none_free : (k : ℕ) → l.fn.from ≤ k → k < l.from → is_free l.host l.piece l.behind (uses_at l.trail.takes.items l.number) k ≡ false;
}

abbrev pub decreases-loop-candidate : goal.decreases-loop-candidate
decreases-loop-candidate l = 2 ^ 64 - l.from
