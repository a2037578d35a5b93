use Rattle.form_levels.proofs.Parting.{IsBegun}
use Rattle.form_levels.proofs.choosing.part.Given as goal

abbrev pub invariant-loop-term : goal.invariant-loop-term
invariant-loop-term l = IsBegun l.condition l.fn.terms.items l.taken.items l.passed.items l.term-iterator.rest.items
