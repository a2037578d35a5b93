use Rattle.std.proofs.Common.{◌≡◌, length, Ok, false, sym, ◌∙◌, ap, refl, subst, arith}
use Rattle.form_expand.specs.Listing as listing
use Rattle.form_flow.specs.Outcome.{and_then, gone, made, output, silent, unchanged}
use Rattle.form_flow.specs.Left.{left_of_frames, limits_of, pending}
use Rattle.form_flow.specs.Nearing.{IsMost}
use Rattle.form_flow.specs.Paths.{ways}
use Rattle.form_flow.specs.Sources.{HasEffect, listed}
use Rattle.form_flow.specs.Statements.{action}
use Rattle.form_flow.specs.Ways.{out}
use Rattle.form_flow.proofs.Ahead.{waits_from, waits_none}
use Rattle.form_flow.proofs.Binding.{bind_single}
use Rattle.form_flow.proofs.Waiting.{bind_gone, left_is, none_is, single_is}
use Rattle.form_flow.proofs.descent.Descent.take.Goals as goal

pub returns-in-None-clause-moves : goal.returns-in-None-clause-moves
returns-in-None-clause-moves c o is =
    let d = c.args.self.now in
    let act = action (limits_of d) in
    let same : o ≡ unchanged c.in-None.item = subst (λ e. HasEffect (Ok e) o) c.in-None.is is in (
      ap (λ a. pending a d) same
          ∙ ap (λ a. and_then (silent d.has_acted) (and_then a (left_of_frames act d.end d.frames.items))) (bind_single (out (ways act d.path)) (output false c.in-None.item)),
      c.requires,
    )

pub returns-in-None-clause-ahead : goal.returns-in-None-clause-ahead
returns-in-None-clause-ahead c n most = let d = c.args.self.now in waits_none c.in-None.item n d d refl (omega arith)

pub returns-in-Discarded-clause-moves : goal.returns-in-Discarded-clause-moves
returns-in-Discarded-clause-moves c o is =
    let d = c.args.self.now in
    let act = action (limits_of d) in
    let none : o ≡ gone = subst (λ e. HasEffect (Ok e) o) c.in-Discarded.is is in (
      ap (λ a. pending a d) none
          ∙ ap (λ a. and_then (silent d.has_acted) (and_then a (left_of_frames act d.end d.frames.items))) (bind_gone (ways act d.path))
          ∙ sym (left_is d c.requires),
      c.requires,
    )

pub returns-in-One-clause-moves : goal.returns-in-One-clause-moves
returns-in-One-clause-moves c o is =
    let d = c.mark.new.self in
    let act = action (limits_of d) in
    let one : o ≡ made (listing.single c.in-One.item) = subst (λ e. HasEffect (Ok e) o) c.in-One.is is in (
      ap (λ a. pending a c.args.self.now) one
          ∙ c.mark.ensures.marked (listing.single c.in-One.item)
          ∙ single_is d.has_acted (ways act d.path) c.in-One.item (left_of_frames act d.end d.frames.items),
      c.mark.ensures.first ∙ c.requires,
    )

pub returns-in-One-clause-ahead : goal.returns-in-One-clause-ahead
returns-in-One-clause-ahead c n most =
    waits_none c.in-One.item n c.args.self.now c.mark.new.self c.mark.ensures.weight (omega (arith, c.mark.ensures.waiting))

pub returns-in-Nothing-clause-moves : goal.returns-in-Nothing-clause-moves
returns-in-Nothing-clause-moves c o is =
    let d = c.mark-in-Nothing.new.self in
    let act = action (limits_of d) in
    let none : o ≡ made listing.nothing = subst (λ e. HasEffect (Ok e) o) c.in-Nothing.is is in
    let first = c.mark-in-Nothing.ensures.first ∙ c.requires in (
      ap (λ a. pending a c.args.self.now) none
          ∙ c.mark-in-Nothing.ensures.marked listing.nothing
          ∙ none_is d.has_acted (ways act d.path) listing.nothing (left_of_frames act d.end d.frames.items) refl
          ∙ sym (left_is d first),
      first,
    )

pub returns-in-Source-clause-ahead : goal.returns-in-Source-clause-ahead
returns-in-Source-clause-ahead c n most =
    waits_from c.begin.result (length (listed c.in-Source.source).terms) n c.args.self.now c.mark-in-Source.new.self c.begin.new.self c.begin.ensures.ahead
    (subst (λ e. IsMost e n) c.in-Source.is most) c.mark-in-Source.ensures.weight c.mark-in-Source.ensures.waiting

pub returns-in-Discarded-clause-ahead : goal.returns-in-Discarded-clause-ahead
returns-in-Discarded-clause-ahead c n most = omega arith

pub returns-in-Nothing-clause-ahead : goal.returns-in-Nothing-clause-ahead
returns-in-Nothing-clause-ahead c n most = omega (arith, c.mark-in-Nothing.ensures.waiting)
