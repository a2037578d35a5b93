use Rattle.std.proofs.Common.{◌≡◌, drop}
use Rattle.std.specs.List.{list_any}
use Rattle.form_match.specs.Places.{uses_at}
use Rattle.form_match.specs.Matching.{clashes}
use Rattle.form_match.proofs.trail.Trail.is_free.Given as goal

abbrev pub invariant-loop-taken : goal.invariant-loop-taken
invariant-loop-taken l =
    list_any (λ u. clashes u l.one) (uses_at l.self.takes.items l.host) ≡ list_any (λ u. clashes u l.one) (uses_at (drop l.taken-index l.taken-items) l.host)
