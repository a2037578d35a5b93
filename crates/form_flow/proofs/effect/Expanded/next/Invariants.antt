use Rattle.std.proofs.Common.{◌≡◌, length}
use Rattle.form_flow.specs.Sources.{expanded_left}
use Rattle.form_flow.proofs.effect.Expanded.next.Given as goal

abbrev pub invariant-terms : goal.invariant-terms
invariant-terms l = expanded_left l.self ≡ expanded_left l.initial.self

abbrev pub decreases-terms : goal.decreases-terms
decreases-terms l = length l.self.list.terms
