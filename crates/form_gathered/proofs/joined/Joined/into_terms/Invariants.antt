use Rattle.std.proofs.Common.{◌≡◌, ◌++◌, map}
use Rattle.form_gathered.specs.Joined.{present}
use Rattle.form_gathered.specs.Tally.{entry_of}
use Rattle.form_gathered.proofs.joined.Joined.into_terms.Given as goal

-- what is made so far and what is left make up those whose sum isn't 0
abbrev pub invariant-loop-term : goal.invariant-loop-term
invariant-loop-term l = l.terms.items ++ present (map entry_of l.term-iterator) ≡ present l.fn.self
