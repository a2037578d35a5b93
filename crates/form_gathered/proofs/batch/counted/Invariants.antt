use Rattle.std.proofs.Common.{◌≡◌, take}
use Rattle.form_gathered.specs.Joined.{counted}
use Rattle.form_gathered.proofs.batch.counted.Given as goal

-- what those so far count
abbrev pub invariant-loop-term : goal.invariant-loop-term
invariant-loop-term l = l.sum ≡ counted (take l.term-index l.terms)
