use Rattle.std.proofs.Common.{◌≡◌, length, false}
use Rattle.form_flow.specs.Left.{outputs_left}
use Rattle.form_flow.proofs.Carrying.{HasCarried}
use Rattle.form_flow.proofs.carry.emit_all.Given as goal

abbrev pub invariant-loop-item : goal.invariant-loop-item
invariant-loop-item g l = record {
  carried : HasCarried (g.E.Emit.emitted l.initial.out) (outputs_left l.initial.outputs) (g.E.Emit.emitted l.out) (outputs_left l.outputs);
  wanted : g.E.Emit.has_stopped l.initial.out ≡ false → g.E.Emit.has_stopped l.out ≡ false;
}

-- no list is endless
abbrev pub decreases-loop-item : goal.decreases-loop-item
decreases-loop-item g l = length (outputs_left l.outputs).terms
