use Rattle.std.proofs.Common.{Ok, subst, ap, ◌∙◌}
use Rattle.form_flow.specs.Left.{Steps, left, on_way}
use Rattle.form_flow.specs.Outcome.{Outcome, cause_of}
use Rattle.form_flow.proofs.Following.{begins_follows, end_behind, refuses_follows}
use Rattle.form_flow.proofs.descent.Descent.follow.Goals as goal

pub returns-in-Ok-On : goal.returns-in-Ok-On
returns-in-Ok-On c =
    let is = subst (λ s. Steps (Ok s) (on_way c.args.item c.args.self.now) c.step.new.self) c.in-Ok-On.field-0-is c.in-Ok-On.ensures.steps in
    (ap (λ (o : Outcome). cause_of o.end) is.0, is.1)

pub returns-in-Ok-Out : goal.returns-in-Ok-Out
returns-in-Ok-Out c =
    let old = on_way c.args.item c.args.self.now in
    let new = c.step.new.self in
    let is = subst (λ s. Steps (Ok s) old new) c.in-Ok-Out.field-0-is c.in-Ok-Out.ensures.steps in
    begins_follows c.next_waiting.result old (left new) c.next_waiting.new.self
    (ap (λ (o : Outcome). cause_of o.end) is ∙ end_behind c.in-Ok-Out.field-0-0 (left new)) c.next_waiting.ensures.begins

pub returns-in-Ok-Gone : goal.returns-in-Ok-Gone
returns-in-Ok-Gone c =
    let old = on_way c.args.item c.args.self.now in
    let new = c.step.new.self in
    let is = subst (λ s. Steps (Ok s) old new) c.in-Ok-Gone.field-0-is c.in-Ok-Gone.ensures.steps in
    begins_follows c.next_waiting-in-Ok-Gone.result old (left new) c.next_waiting-in-Ok-Gone.new.self
    (ap (λ (o : Outcome). cause_of o.end) is.0) c.next_waiting-in-Ok-Gone.ensures.begins

pub returns : goal.returns
returns c = refuses_follows c.in-Err.error (on_way c.args.item c.args.self.now) c.step.new.self c.in-Err.ensures.steps
