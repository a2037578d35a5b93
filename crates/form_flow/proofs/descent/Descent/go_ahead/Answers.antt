use Rattle.std.proofs.Common.{Ok, subst, ap, ◌∙◌}
use Rattle.form_flow.specs.Left.{Begins, Follows, left, on_way}
use Rattle.form_flow.specs.Outcome.{Outcome, cause_of}
use Rattle.form_flow.proofs.Following.{follows_foresees, refuses_foresees}
use Rattle.form_flow.proofs.descent.Descent.go_ahead.Goals as goal

pub returns-in-Err : goal.returns-in-Err
returns-in-Err c = refuses_foresees c.in-Err.error (left c.args.self.now) c.in-Err.ensures.begins

pub loop-steps-init : goal.loop-steps-init
loop-steps-init c =
    let is = subst (λ r. Begins (Ok r) (left c.args.self.now) c.next_waiting.new.self) c.in-Ok-Some.field-0-is c.in-Ok-Some.ensures.begins in
    record { ends = ap (λ (o : Outcome). cause_of o.end) is.0; first = is.1 }

pub returns-in-Err-follow : goal.returns-in-Err-follow
returns-in-Err-follow c =
    follows_foresees c.in-Err-follow.error (left c.args.self.now) (on_way c.loop-steps.item c.loop-steps.self) c.follow.new.self c.loop-steps.invariant.ends c.in-Err-follow.ensures

pub loop-steps-preserved : goal.loop-steps-preserved
loop-steps-preserved c =
    let is = subst (λ r. Follows (Ok r) (on_way c.loop-steps.item c.loop-steps.self) c.follow.new.self) c.in-Ok-Some-follow.field-0-is c.in-Ok-Some-follow.ensures in
    record { ends = c.loop-steps.invariant.ends ∙ is.0; first = is.1 }
