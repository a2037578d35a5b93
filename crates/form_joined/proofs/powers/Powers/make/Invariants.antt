use Rattle.form_joined.specs.Powers.{AreKept}
use Rattle.form_joined.proofs.powers.Powers.make.Given as goal

abbrev pub invariant-loop-made : goal.invariant-loop-made
invariant-loop-made l = AreKept l.list l.self
