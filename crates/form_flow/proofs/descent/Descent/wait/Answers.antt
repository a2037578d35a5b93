use Rattle.std.proofs.Common.{length, Some, Ok, Err, false, refl, subst, sym, ap, ◌∙◌, arith}
use Rattle.form_expand.specs.Listing.{Listing}
use Rattle.form_flow.specs.declared.descent.Frame.{Frame}
use Rattle.form_flow.specs.Left.{Nexts, left_of_frames, limits_of, on_way}
use Rattle.form_flow.specs.Nearing.{waiting_ahead, way_weight}
use Rattle.form_flow.specs.Outcome.{and_then, silent}
use Rattle.form_flow.specs.Paths.{ways}
use Rattle.form_flow.specs.Sources.{listed}
use Rattle.form_flow.specs.Statements.{action}
use Rattle.form_flow.specs.Ways.{finish}
use Rattle.form_flow.proofs.Ahead.{none_ahead, pushed_ahead, waits_frame, waits_none}
use Rattle.form_flow.proofs.Waiting.{none_waits, refusal_waits, waits_behind}
use Rattle.form_flow.proofs.descent.Descent.wait.Goals as goal

pub returns-in_ok-push-in-Ok-Some-clause-moves : goal.returns-in_ok-push-in-Ok-Some-clause-moves
returns-in_ok-push-in-Ok-Some-clause-moves c =
    let d = c.args.self.now in
    let act = action (limits_of d) in
    let l = listed c.args.source in
    let f : Frame = record { next = c.in-Ok-Some.next; path = c.in_ok-path-in-Ok-Some.path; source = c.next.new.self } in
    let is = subst (λ r. Nexts (Ok r) l (listed c.next.new.self)) c.in-Ok-Some.field-0-is c.in-Ok-Some.ensures in (
      waits_behind act d.has_acted d.end d.frames.items c.push.new.self.items f (ways act d.path) c.args.item l
          c.in_ok-push-in-Ok-Some.ensures.items (c.in_ok-path-in-Ok-Some.ensures.ways act) is,
      c.requires,
    )

pub returns-in_ok-push-in-Ok-Some-clause-ahead : goal.returns-in_ok-push-in-Ok-Some-clause-ahead
returns-in_ok-push-in-Ok-Some-clause-ahead c =
    let d = c.args.self.now in
    let at = limits_of d in
    let l = listed c.args.source in
    let f : Frame = record { next = c.in-Ok-Some.next; path = c.in_ok-path-in-Ok-Some.path; source = c.next.new.self } in
    let is = subst (λ r. Nexts (Ok r) l (listed c.next.new.self)) c.in-Ok-Some.field-0-is c.in-Ok-Some.ensures in
    waits_frame c.args.item d (record d { frames = c.push.new.self }) f refl (c.in_ok-path-in-Ok-Some.ensures.weight at)
    (pushed_ahead at d.frames.items c.push.new.self.items f c.in_ok-push-in-Ok-Some.ensures.items) (length l.terms) (ap (λ (k : Listing). length k.terms) is)

pub returns-in-Ok-None-clause-moves : goal.returns-in-Ok-None-clause-moves
returns-in-Ok-None-clause-moves c =
    let d = c.args.self.now in
    let act = action (limits_of d) in
    let l = listed c.args.source in
    let is = subst (λ r. Nexts (Ok r) l (listed c.next.new.self)) c.in-Ok-None.field-0-is c.in-Ok-None.ensures in
    (none_waits d.has_acted (finish (ways act d.path) false c.args.item) (left_of_frames act d.end d.frames.items) (ways act d.path) l is, c.requires)

pub returns-in-Ok-None-clause-ahead : goal.returns-in-Ok-None-clause-ahead
returns-in-Ok-None-clause-ahead c = let d = c.args.self.now in waits_none c.args.item (length (listed c.args.source).terms) d d refl (omega arith)

pub returns-in-Err-Refused-clause-moves : goal.returns-in-Err-Refused-clause-moves
returns-in-Err-Refused-clause-moves c =
    let d = c.args.self.now in
    let act = action (limits_of d) in
    let l = listed c.args.source in
    let new = c.refuse.new.self in
    let one = finish (ways act d.path) false c.args.item in
    let is = subst (λ e. Nexts (Err e) l (listed c.next.new.self)) c.in-Err-Refused.field-0-is c.in-Err-Refused.ensures in (
      refusal_waits act d.has_acted c.in-Err-Refused.cause one (left_of_frames act d.end d.frames.items) new.frames.items (ways act d.path) l is c.refuse.ensures.none
          ∙ ap (λ cause. and_then (silent d.has_acted) (and_then one (left_of_frames act (Some cause) new.frames.items))) (sym c.in-Err-Refused.cause-is)
          ∙ sym (ap (on_way c.args.item) c.refuse.ensures.same),
      ap (λ x. x.first) c.refuse.ensures.same ∙ c.requires,
    )

pub returns-in-Err-Refused-clause-ahead : goal.returns-in-Err-Refused-clause-ahead
returns-in-Err-Refused-clause-ahead c =
    let d = c.args.self.now in
    let new = c.refuse.new.self in
    let waiting = ap waiting_ahead c.refuse.ensures.same in
    let none = none_ahead (limits_of d) new.frames.items c.refuse.ensures.none in
    waits_none c.args.item (length (listed c.args.source).terms) d new (ap way_weight c.refuse.ensures.same) (omega (arith, waiting, none))
