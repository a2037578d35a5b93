use Rattle.std.proofs.Common.{rules, append_assoc, arith}
use Rattle.std.proofs.lemmas.Grind.{common_steps}
use Rattle.form_base.proofs.place.PlaceDisplay.fmt.Goals as goal

pub returns-in-Run-clause-writes : goal.returns-in-Run-clause-writes
returns-in-Run-clause-writes g c = rw c.in-Run.is (simp append_assoc (search rules))
