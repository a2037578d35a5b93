use Rattle.std.proofs.Common.{◌≡◌, ◌++◌}
use Rattle.form_collect.proofs.Ordered.{monomials_of}
use Rattle.form_collect.proofs.collector.Collector.into_terms.Given as goal

-- what is made so far and what is left make up the monomials of the entries
abbrev pub invariant-loop-term : goal.invariant-loop-term
invariant-loop-term l = l.terms.items ++ monomials_of l.term-iterator ≡ monomials_of l.fn.self.sums.entries
