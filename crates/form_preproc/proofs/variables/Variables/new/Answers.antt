use Rattle.std.proofs.Common.{length, arith, ap}
use Rattle.form_preproc.specs.Places.{number_of_values}
use Rattle.form_preproc.proofs.Changes.{below_none}
use Rattle.form_preproc.proofs.variables.Variables.new.Goals as goal

pub invariant_of-result-clause-below : goal.invariant_of-result-clause-below
invariant_of-result-clause-below c = below_none (length c.new-2.result.items) c.new-3.result.changes.items c.new-3.ensures.1

pub invariant_of-result-clause-measured : goal.invariant_of-result-clause-measured
invariant_of-result-clause-measured c = omega (arith, ap length c.new-2.ensures.items)

pub invariant_of-result-clause-roomy : goal.invariant_of-result-clause-roomy
invariant_of-result-clause-roomy c = omega (arith, ap number_of_values c.new-2.ensures.items)
