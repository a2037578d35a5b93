use Rattle.std.proofs.Common.{◌≡◌, map, take}
use Rattle.form_rewrite.proofs.cuts.places.Given as goal

abbrev pub invariant-loop-cut : goal.invariant-loop-cut
invariant-loop-cut l = l.places.items ≡ map (λ c. c.place) (take l.cut-index l.cuts)
