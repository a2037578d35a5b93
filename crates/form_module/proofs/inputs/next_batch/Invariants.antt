use Rattle.std.proofs.Common.{◌≡◌, length}
use Rattle.form_module.specs.Batches.{behind}
use Rattle.form_module.specs.Inputs.{inputs_left}
use Rattle.form_module.proofs.inputs.next_batch.Given as goal

abbrev pub invariant-loop-made : goal.invariant-loop-made
invariant-loop-made l = (inputs_left l.fn.inputs ≡ behind l.items.items (inputs_left l.inputs)) × (length l.items.items ≡ l._made)
