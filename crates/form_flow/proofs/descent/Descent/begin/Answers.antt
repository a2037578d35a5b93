use Rattle.std.proofs.Common.{length, Ok, refl, subst, sym, ap, ◌∙◌, arith}
use Rattle.form_expand.specs.Listing.{Listing}
use Rattle.form_flow.specs.Left.{Moves, Nexts, left_of_frames, limits_of}
use Rattle.form_flow.specs.Paths.{ways}
use Rattle.form_flow.specs.Sources.{listed}
use Rattle.form_flow.specs.Statements.{action}
use Rattle.form_flow.proofs.Ahead.{waits_from}
use Rattle.form_flow.proofs.Waiting.{errs, left_is, next_is, none_is}
use Rattle.form_flow.proofs.descent.Descent.begin.Goals as goal

pub returns-in-Ok-None-clause-moves : goal.returns-in-Ok-None-clause-moves
returns-in-Ok-None-clause-moves c =
    let d = c.args.self.now in
    let act = action (limits_of d) in
    let none = subst (λ f. Nexts (Ok f) (listed c.args.source) (listed c.next.new.self)) c.in-Ok-None.field-0-is c.in-Ok-None.ensures in
    (none_is d.has_acted (ways act d.path) (listed c.args.source) (left_of_frames act d.end d.frames.items) none ∙ sym (left_is d c.requires), c.requires)

pub returns-in-Err-clause-moves : goal.returns-in-Err-clause-moves
returns-in-Err-clause-moves c =
    let d = c.args.self.now in
    let act = action (limits_of d) in
    errs c.in-Err.error d.has_acted (ways act d.path) (listed c.args.source) (listed c.next.new.self) (left_of_frames act d.end d.frames.items) c.in-Err.ensures

pub returns-clause-moves : goal.returns-clause-moves
returns-clause-moves c =
    let d = c.args.self.now in
    let act = action (limits_of d) in
    let later = listed c.next.new.self in
    let first = subst (λ f. Nexts (Ok f) (listed c.args.source) later) c.in-Ok-Some.field-0-is c.in-Ok-Some.ensures in
    subst (λ x. Moves c.wait.result x c.wait.new.self)
    (sym (next_is d.has_acted (ways act d.path) (listed c.args.source) later c.in-Ok-Some.item (left_of_frames act d.end d.frames.items) first))
    c.wait.ensures.moves

pub returns-clause-ahead : goal.returns-clause-ahead
returns-clause-ahead c =
    let d = c.args.self.now in
    let later = listed c.next.new.self in
    let first = subst (λ f. Nexts (Ok f) (listed c.args.source) later) c.in-Ok-Some.field-0-is c.in-Ok-Some.ensures in
    let long = ap (λ (l : Listing). length l.terms) first in
    waits_from c.wait.result (length later.terms) (length (listed c.args.source).terms) d d c.wait.new.self c.wait.ensures.ahead (omega (arith, long)) refl refl

pub returns-in-Ok-None-clause-ahead : goal.returns-in-Ok-None-clause-ahead
returns-in-Ok-None-clause-ahead c = omega arith
