use Rattle.std.proofs.Common.{◌≡◌, map, take}
use Rattle.form_flow.specs.Rests.{place_of}
use Rattle.form_flow.proofs.between.places.Given as goal

abbrev pub invariant-loop-one : goal.invariant-loop-one
invariant-loop-one l = l.places.items ≡ map place_of (take l.one-index l.between)
