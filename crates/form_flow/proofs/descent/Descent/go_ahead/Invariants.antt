use Rattle.std.proofs.Common.{◌≡◌, None}
use Rattle.form_flow.specs.Left.{left, on_way}
use Rattle.form_flow.specs.Outcome.{cause_of}
use Rattle.form_flow.proofs.descent.Descent.go_ahead.Given as goal

abbrev pub invariant-loop-steps : goal.invariant-loop-steps
invariant-loop-steps l = record {
  ends : cause_of (left l.fn.self).end ≡ cause_of (on_way l.item l.self).end;
  first : l.self.first ≡ None;
}

abbrev pub decreases-loop-steps : goal.decreases-loop-steps
decreases-loop-steps l = l.steps
