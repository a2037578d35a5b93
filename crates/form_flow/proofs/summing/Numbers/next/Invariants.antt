-- nothing came of the values before
use Rattle.std.proofs.Common.{◌≡◌, length}
use Rattle.form_flow.specs.Sources.{numbers_left}
use Rattle.form_flow.proofs.summing.Numbers.next.Given as goal

abbrev pub invariant-loop-value : goal.invariant-loop-value
invariant-loop-value l = numbers_left l.initial.self ≡ numbers_left l.self

abbrev pub decreases-loop-value : goal.decreases-loop-value
decreases-loop-value l = length l.self.values.now
