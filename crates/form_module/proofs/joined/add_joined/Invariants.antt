use Rattle.std.specs.Vec.Iter.{into_iter_items}
use Rattle.form_module.proofs.Summed.{HaveAll}
use Rattle.form_module.proofs.joined.add_joined.Given as goal

abbrev pub invariant-loop-term : goal.invariant-loop-term
invariant-loop-term l = HaveAll l.fn.table l.fn.terms.items l.table (into_iter_items l.term-iterator)
