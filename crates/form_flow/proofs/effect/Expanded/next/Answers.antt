use Rattle.std.proofs.Common.{length, sym, ap, ◌∙◌, arith}
use Rattle.std.proofs.lemmas.Result.{err_from_is_err_and}
use Rattle.form_expand.specs.Listing.{Listing}
use Rattle.form_flow.specs.Multiplying.{multiplied_by, product_from}
use Rattle.form_flow.specs.Sources.{expanded_left}
use Rattle.form_flow.proofs.Multiplied.{side_nothing, side_step, unlisted, unmade, was_made, was_zero}
use Rattle.form_flow.proofs.effect.Expanded.next.Goals as goal

pub returns-in_err-term : goal.returns-in_err-term
returns-in_err-term c =
    let e = c.terms.self in
    let p = err_from_is_err_and c.from_residual.result c.from_residual.ensures.1 in
    rw (p.1, p.2)
    (unlisted e.side e.item (c.in_err-term.field-0.0) e.list c.next.new.self (expanded_left c.args.self.now) (multiplied_by e.side c.next.new.self e.item) (sym c.terms.invariant) c.in_err-term.ensures)

pub returns-in_default : goal.returns-in_default
returns-in_default c =
    let e = c.terms.self in
    let gave = rw c.in_default.is at c.in_ok-term.ensures in
    sym c.terms.invariant ∙ ap (λ (l : Listing). multiplied_by e.side l e.item) gave.0 ∙ side_nothing e.side e.item

pub returns-in_err-made : goal.returns-in_err-made
returns-in_err-made c =
    let e = c.terms.self in
    let r = c.from_residual-in_err-made in
    let p = err_from_is_err_and r.result r.ensures.1 in
    let gave = rw c.in-Some.is at c.in_ok-term.ensures in
    rw (p.1, p.2)
    (unmade (product_from e.side e.item c.in-Some.term) (c.in_err-made.field-0.0) (expanded_left c.args.self.now) (multiplied_by e.side c.next.new.self e.item) (multiplied_by e.side c.next.new.self e.item)
    (sym c.terms.invariant ∙ side_step e.side e.item c.in-Some.term e.list c.next.new.self gave) c.in_err-made.ensures)

pub returns-in-Some-made : goal.returns-in-Some-made
returns-in-Some-made c =
    let e = c.terms.self in
    let gave = rw c.in-Some.is at c.in_ok-term.ensures in
    was_made (product_from e.side e.item c.in-Some.term) c.in-Some-made.made (expanded_left c.args.self.now) (multiplied_by e.side c.next.new.self e.item)
    (sym c.terms.invariant ∙ side_step e.side e.item c.in-Some.term e.list c.next.new.self gave) (rw c.in-Some-made.is at c.in_ok-made.ensures)

pub terms-preserved : goal.terms-preserved
terms-preserved c =
    let e = c.terms.self in
    let gave = rw c.in-Some.is at c.in_ok-term.ensures in
    sym (was_zero (product_from e.side e.item c.in-Some.term) (expanded_left e) (multiplied_by e.side c.next.new.self e.item)
    (side_step e.side e.item c.in-Some.term e.list c.next.new.self gave) (rw c.in_default-made.is at c.in_ok-made.ensures))
    ∙ c.terms.invariant

pub terms-preserved-in_default-made : goal.terms-preserved-in_default-made
terms-preserved-in_default-made c =
    let e = c.terms.self in
    let gave = rw c.in-Some.is at c.in_ok-term.ensures in
    sym (was_zero (product_from e.side e.item c.in-Some.term) (expanded_left e) (multiplied_by e.side c.next.new.self e.item)
    (side_step e.side e.item c.in-Some.term e.list c.next.new.self gave) (rw c.in_default-made.is at c.in_ok-made.ensures))
    ∙ c.terms.invariant

pub terms-smaller : goal.terms-smaller
terms-smaller c =
    let gave = rw c.in-Some.is at c.in_ok-term.ensures in
    omega (arith, ap (λ (l : Listing). length l.terms) gave)
