-- the numbers before are of dummies there
use Rattle.std.proofs.Common.{◌≡◌, ◌+◌, ◌-◌, length}
use Rattle.form_flow.specs.Indices.{free_dummy, least_free}
use Rattle.form_flow.proofs.indices.free_dummy.Given as goal

abbrev pub invariant-loop-turn : goal.invariant-loop-turn
invariant-loop-turn l = (l.number ≡ l._turn-index + l.from) × (least_free (length l.there - l._turn-index) l.number l.there ≡ free_dummy l.there)
