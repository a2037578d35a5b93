use Rattle.std.proofs.Common.{◌≡◌, ◌++◌, drop}
use Rattle.form_match.specs.Places.{uses_at}
use Rattle.form_match.proofs.trail.Trail.uses_of.Given as goal

abbrev pub invariant-loop-taken : goal.invariant-loop-taken
invariant-loop-taken l = l.uses ++ uses_at (drop l.taken-index l.taken-items) l.host ≡ uses_at l.taken-items l.host
