use Rattle.std.proofs.Common.{◌≡◌, drop}
use Rattle.form_collect.proofs.Standing.{IsStood}
use Rattle.form_collect.proofs.sorting.places_in.Given as goal

abbrev pub invariant-loop-keyed : goal.invariant-loop-keyed
invariant-loop-keyed l = (l.stands ≡ l.keyed-index) × IsStood l.keys l.places.items (drop l.keyed-index l.keys) l.keyed-index
