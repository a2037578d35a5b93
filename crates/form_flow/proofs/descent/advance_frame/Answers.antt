use Rattle.std.proofs.Common.{Ok, false, refl, sym, ap, subst, ◌∙◌}
use Rattle.form_flow.specs.declared.descent.Frame.{Frame}
use Rattle.form_flow.specs.Left.{Nexts, going}
use Rattle.form_flow.specs.Outcome.{and_then}
use Rattle.form_flow.specs.Paths.{ways}
use Rattle.form_flow.specs.Sources.{listed}
use Rattle.form_flow.specs.Ways.{finish}
use Rattle.form_flow.proofs.Ahead.{takes_err, takes_last, takes_next}
use Rattle.form_flow.proofs.Waiting.{goes_on, stops, unadvanced}
use Rattle.form_flow.proofs.descent.advance_frame.Goals as goal

pub returns-in_ok-set-in-Ok-Some-clause-advances : goal.returns-in_ok-set-in-Ok-Some-clause-advances
returns-in_ok-set-in-Ok-Some-clause-advances c act =
    let f = c.args.frame.now in
    let l = listed c.next.new.self in
    let ws = ways act c.set.new.self in
    let is = subst (λ r. Nexts (Ok r) (listed f.source) l) c.in-Ok-Some.field-0-is c.in-Ok-Some.ensures in
    goes_on act f l c.in-Ok-Some.later ws (c.in_ok-set-in-Ok-Some.ensures.ways act) is
    ∙ ap (λ m. and_then (finish ws false m) (and_then (finish (ways act f.path) false c.in-Ok-Some.later) (going (ways act f.path) l))) (sym c.replace.ensures.value)
    ∙ ap (λ m. and_then (finish ws false c.replace.result) (and_then (finish (ways act f.path) false m) (going (ways act f.path) l))) (sym c.replace.ensures.after)

pub returns-in_ok-set-in-Ok-Some-clause-ahead : goal.returns-in_ok-set-in-Ok-Some-clause-ahead
returns-in_ok-set-in-Ok-Some-clause-ahead c at =
    let f = c.args.frame.now in
    let new : Frame = record { next = c.replace.new.dest; path = f.path; source = c.next.new.self } in
    let is = subst (λ r. Nexts (Ok r) (listed f.source) (listed c.next.new.self)) c.in-Ok-Some.field-0-is c.in-Ok-Some.ensures in
    takes_next at f new c.set.new.self c.in-Ok-Some.later refl (c.in_ok-set-in-Ok-Some.ensures.weight at) is

pub returns-in-Ok-None-clause-advances : goal.returns-in-Ok-None-clause-advances
returns-in-Ok-None-clause-advances c act =
    let f = c.args.frame.now in
    stops act f (subst (λ r. Nexts (Ok r) (listed f.source) (listed c.next.new.self)) c.in-Ok-None.field-0-is c.in-Ok-None.ensures)

pub returns-in-Ok-None-clause-ahead : goal.returns-in-Ok-None-clause-ahead
returns-in-Ok-None-clause-ahead c at = let f = c.args.frame.now in takes_last at f (record f { source = c.next.new.self }) refl

pub returns-in-Err-clause-advances : goal.returns-in-Err-clause-advances
returns-in-Err-clause-advances c act =
    let f = c.args.frame.now in
    unadvanced c.in-Err.error act f (record f { source = c.next.new.self }) c.args.path.now (listed c.next.new.self) refl refl c.in-Err.ensures

pub returns-in-Err-clause-ahead : goal.returns-in-Err-clause-ahead
returns-in-Err-clause-ahead c at =
    let f = c.args.frame.now in
    takes_err c.in-Err.error at f (record f { source = c.next.new.self }) c.args.path.now refl
