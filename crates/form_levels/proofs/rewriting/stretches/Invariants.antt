use Rattle.std.proofs.Common.{◌≡◌, ◌++◌, length, map}
use Rattle.form_levels.specs.Stretches.{stretches_at, with_origin}
use Rattle.form_levels.proofs.rewriting.stretches.Given as goal

abbrev pub invariant-loop-cut : goal.invariant-loop-cut
invariant-loop-cut l = map with_origin l.made.items ++ stretches_at l.term.others.word l.ahead ≡ stretches_at l.term.others.word l.cuts

abbrev pub decreases-loop-cut : goal.decreases-loop-cut
decreases-loop-cut l = length l.ahead
