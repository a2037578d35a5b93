use Rattle.std.proofs.Common.{drop}
use Rattle.form_collect.proofs.Places.{IsTaken}
use Rattle.form_collect.proofs.sorting.by_places.Given as goal

abbrev pub invariant-loop-keyed : goal.invariant-loop-keyed
invariant-loop-keyed l = IsTaken l.fn.terms.items l.terms.items l.list.items l.keys (drop l.keyed-index l.keys)
