use Rattle.std.proofs.Common.{◌++◌}
use Rattle.form_gathered.specs.Joined.{Stand}
use Rattle.form_sides.proofs.products.add_each.Given as goal

-- what is in the table and what is left stand for all
abbrev pub invariant-loop-term : goal.invariant-loop-term
invariant-loop-term l = Stand (l.fn.table ++ l.fn.terms.items) (l.table ++ l.term-iterator.rest.items)
