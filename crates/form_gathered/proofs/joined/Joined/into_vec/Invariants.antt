use Rattle.std.proofs.Common.{◌≡◌, ◌++◌, map}
use Rattle.form_gathered.specs.Tally.{entry_of}
use Rattle.form_gathered.proofs.joined.Joined.into_vec.Given as goal

-- what is made so far and what is left make up the table's
abbrev pub invariant-loop-term : goal.invariant-loop-term
invariant-loop-term l = l.all.items ++ map entry_of l.term-iterator ≡ l.fn.self
