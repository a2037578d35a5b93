use Rattle.std.proofs.Common.{◌≡◌, ◌-◌, suc, length, take, get_or, Ok, Err, false, subst, ◌∙◌, arith}
use Rattle.std.proofs.lemmas.List.{nil_from_length}
use Rattle.std.specs.Vec.{with_item}
use Rattle.form_flow.specs.declared.descent.Descent.{Descent}
use Rattle.form_flow.specs.Frames.{Advances, Takes, TakesLast}
use Rattle.form_flow.specs.Left.{left, left_of_frame, limits_of}
use Rattle.form_flow.specs.Nearing.{first_ahead, two_to}
use Rattle.form_flow.specs.Paths.{ways}
use Rattle.form_flow.specs.Statements.{action}
use Rattle.form_flow.specs.Ways.{finish}
use Rattle.form_flow.specs.Weight.{path_weight}
use Rattle.form_flow.proofs.Ahead.{frame_starts, last_frame_starts, last_starts, one_starts}
use Rattle.form_flow.proofs.Waiting.{frame_taken, last_advanced, last_set, last_taken, left_is, one_advanced, refused_advanced}
use Rattle.form_flow.proofs.descent.Descent.next_of_frame.Goals as goal

pub ended-requires-clause-frames : goal.ended-requires-clause-frames
ended-requires-clause-frames c =
    let s = c.args.self.now in
    nil_from_length s.frames.items (omega (arith, c.len-waiting.ensures, s.frames.ok.0, c.if-waiting-eq0.true))

pub returns-in-Ok-Some-clause-begins : goal.returns-in-Ok-Some-clause-begins
returns-in-Ok-Some-clause-begins c =
    let s = c.args.self.now in
    let n = c.len-waiting.result - 1 in
    let act = action (limits_of s) in
    let f = c.index_mut.result.now in
    let g = c.advance_frame.new.frame in
    let p = c.advance_frame.new.path in
    let is : suc n ≡ length s.frames.items = omega (arith, c.len-waiting.ensures, s.frames.ok.0, c.if-waiting-eq0.false) in
    let read : f ≡ get_or s.frames.items n f = c.index_mut.ensures.value in
    let advances = subst (λ r. Advances act (Ok r) (left_of_frame act f) p g) c.in-Ok-Some.field-0-is (c.in-Ok-Some.ensures.advances act) in
    (left_is s c.requires ∙ one_advanced act s.has_acted s.end s.frames.items n f is read g p c.in-Ok-Some.item advances, c.requires)

pub returns-in-Ok-Some-clause-ahead : goal.returns-in-Ok-Some-clause-ahead
returns-in-Ok-Some-clause-ahead c =
    let s = c.args.self.now in
    let n = c.len-waiting.result - 1 in
    let at = limits_of s in
    let f = c.index_mut.result.now in
    let g = c.advance_frame.new.frame in
    let p = c.advance_frame.new.path in
    let is : suc n ≡ length s.frames.items = omega (arith, c.len-waiting.ensures, s.frames.ok.0, c.if-waiting-eq0.false) in
    let read : f ≡ get_or s.frames.items n f = c.index_mut.ensures.value in
    let takes = subst (λ r. Takes at (Ok r) f p g) c.in-Ok-Some.field-0-is (c.in-Ok-Some.ensures.ahead at) in
    one_starts at s.frames.items n f g is read (two_to (path_weight at p)) (first_ahead s s.first) takes

pub returns-in-Ok-None-clause-begins : goal.returns-in-Ok-None-clause-begins
returns-in-Ok-None-clause-begins c =
    let s = c.args.self.now in
    let n = c.len-waiting.result - 1 in
    let act = action (limits_of s) in
    let f = c.index_mut.result.now in
    let g = c.advance_frame.new.frame in
    let p = c.advance_frame.new.path in
    let is : suc n ≡ length s.frames.items = omega (arith, c.len-waiting.ensures, s.frames.ok.0, c.if-waiting-eq0.false) in
    let read : f ≡ get_or s.frames.items n f = c.index_mut.ensures.value in
    let old : Descent = record s { path = p; frames = with_item s.frames n g } in
    let advances = subst (λ r. Advances act (Ok r) (left_of_frame act f) p g) c.in-Ok-None.field-0-is (c.in-Ok-None.ensures.advances act) in
    frame_taken c.take_frame.result old c.take_frame.new.self (take n s.frames.items) g (left s) c.take_frame.ensures (last_set s.frames.items n g is) c.requires
    (left_is s c.requires ∙ last_advanced act s.has_acted s.end s.frames.items n f is read (finish (ways act g.path) false g.next) advances)

pub returns-in-Ok-None-clause-ahead : goal.returns-in-Ok-None-clause-ahead
returns-in-Ok-None-clause-ahead c =
    let s = c.args.self.now in
    let n = c.len-waiting.result - 1 in
    let at = limits_of s in
    let f = c.index_mut.result.now in
    let g = c.advance_frame.new.frame in
    let p = c.advance_frame.new.path in
    let is : suc n ≡ length s.frames.items = omega (arith, c.len-waiting.ensures, s.frames.ok.0, c.if-waiting-eq0.false) in
    let read : f ≡ get_or s.frames.items n f = c.index_mut.ensures.value in
    let old : Descent = record s { path = p; frames = with_item s.frames n g } in
    let takes = subst (λ r. Takes at (Ok r) f p g) c.in-Ok-None.field-0-is (c.in-Ok-None.ensures.ahead at) in
    frame_starts c.take_frame.result old c.take_frame.new.self s (take n s.frames.items) g c.take_frame.ensures (last_set s.frames.items n g is)
    (last_starts at s.frames.items n f g is read (two_to (path_weight at g.path)) (first_ahead s s.first) takes)

pub returns-in-Err-Refused-clause-begins : goal.returns-in-Err-Refused-clause-begins
returns-in-Err-Refused-clause-begins c =
    let s = c.args.self.now in
    let n = c.len-waiting.result - 1 in
    let act = action (limits_of s) in
    let f = c.index_mut.result.now in
    let g = c.advance_frame.new.frame in
    let p = c.advance_frame.new.path in
    let is : suc n ≡ length s.frames.items = omega (arith, c.len-waiting.ensures, s.frames.ok.0, c.if-waiting-eq0.false) in
    let read : f ≡ get_or s.frames.items n f = c.index_mut.ensures.value in
    let old : Descent = record s { path = p; frames = with_item s.frames n g } in
    let cause = c.in-Err-Refused.cause in
    let taken = subst (λ x. TakesLast c.take_last.result x old c.take_last.new.self) c.in-Err-Refused.cause-is c.take_last.ensures in
    let advances = subst (λ e. Advances act (Err e) (left_of_frame act f) p g) c.in-Err-Refused.field-0-is (c.in-Err-Refused.ensures.advances act) in
    last_taken c.take_last.result cause old c.take_last.new.self (take n s.frames.items) g (left s) taken (last_set s.frames.items n g is) c.requires
    (left_is s c.requires ∙ refused_advanced act s.has_acted s.end s.frames.items n f is read (finish (ways act g.path) false g.next) cause advances)

pub returns-in-Err-Refused-clause-ahead : goal.returns-in-Err-Refused-clause-ahead
returns-in-Err-Refused-clause-ahead c =
    let s = c.args.self.now in
    let n = c.len-waiting.result - 1 in
    let at = limits_of s in
    let f = c.index_mut.result.now in
    let g = c.advance_frame.new.frame in
    let p = c.advance_frame.new.path in
    let is : suc n ≡ length s.frames.items = omega (arith, c.len-waiting.ensures, s.frames.ok.0, c.if-waiting-eq0.false) in
    let read : f ≡ get_or s.frames.items n f = c.index_mut.ensures.value in
    let old : Descent = record s { path = p; frames = with_item s.frames n g } in
    let taken = subst (λ x. TakesLast c.take_last.result x old c.take_last.new.self) c.in-Err-Refused.cause-is c.take_last.ensures in
    let takes = subst (λ e. Takes at (Err e) f p g) c.in-Err-Refused.field-0-is (c.in-Err-Refused.ensures.ahead at) in
    last_frame_starts c.take_last.result c.in-Err-Refused.cause old c.take_last.new.self s (take n s.frames.items) g taken (last_set s.frames.items n g is)
    (last_starts at s.frames.items n f g is read (two_to (path_weight at g.path)) (first_ahead s s.first) takes)
