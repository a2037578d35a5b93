use Rattle.std.proofs.Common.{◌≡◌, length}
use Rattle.form_flow.specs.Sources.{products_left}
use Rattle.form_flow.proofs.effect.Times.next.Given as goal

abbrev pub invariant-loop-term : goal.invariant-loop-term
invariant-loop-term l = products_left l.self ≡ products_left l.initial.self

abbrev pub decreases-loop-term : goal.decreases-loop-term
decreases-loop-term l = length l.self.list.now
