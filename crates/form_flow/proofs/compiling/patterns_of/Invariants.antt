use Rattle.std.proofs.Common.{◌≡◌, map, take}
use Rattle.form_flow.specs.Making.{tried}
use Rattle.form_flow.proofs.compiling.patterns_of.Given as goal

abbrev pub invariant-loop-pattern : goal.invariant-loop-pattern
invariant-loop-pattern l = l.made.items ≡ map (tried l.limit) (take l.pattern-index l.patterns)
