use Rattle.std.proofs.Common.{◌≡◌, suc, ◌+◌, ◌<◌, None, length, sym, ap, ◌∙◌, arith}
use Rattle.form_match.specs.declared.trail.Standing.{Standing}
use Rattle.form_match.specs.Left.{is_one, left_of}
use Rattle.form_match.specs.Places.{ground_of}
use Rattle.form_match.proofs.Ending.{some_from}
use Rattle.form_match.proofs.Factoring.{argument_ends, fewer_on, no_argument, something_left}
use Rattle.form_match.proofs.factors.end_of_product.Goals as goal

pub returns-in_default-clause-goes_on : goal.returns-in_default-clause-goes_on
returns-in_default-clause-goes_on c = λ table ps found here r.
    no_argument table ps found (ground_of c.args.terms.now) c.args.trail.now.takes.items c.args.trail.now.bindings c.args.trail.now.choices.items c.args.at.now c.args.number c.requires.framed c.args.behind.now here r
    (sym c.in_default.ensures)

pub returns-in_default-clause-less : goal.returns-in_default-clause-less
returns-in_default-clause-less c = omega (arith, some_from (c.args.at.now.piece + suc (length c.args.behind.now)) c.args.at.now)

pub returns-then-not-is_taken_whole-clause-goes_on : goal.returns-then-not-is_taken_whole-clause-goes_on
returns-then-not-is_taken_whole-clause-goes_on c = λ table ps found here r.
    something_left table ps found (ground_of c.args.terms.now) c.args.trail.now.takes.items c.args.trail.now.bindings c.args.trail.now.choices.items c.args.at.now c.args.number c.requires.framed c.args.behind.now here r
    c.in-Some.inner.now (sym c.in-Some.ensures)
    (ap (λ us. is_one (left_of c.in-Some.inner.now.term us)) (sym (c.as_slice.ensures ∙ c.in_ok-uses.ensures)) ∙ sym c.is_taken_whole.ensures ∙ c.if-not-is_taken_whole.true)

pub returns-then-not-is_taken_whole-clause-less : goal.returns-then-not-is_taken_whole-clause-less
returns-then-not-is_taken_whole-clause-less c = omega (arith, some_from (c.args.at.now.piece + suc (length c.args.behind.now)) c.args.at.now)

pub returns-clause-goes_on : goal.returns-clause-goes_on
returns-clause-goes_on c = λ table ps found here r.
    rw c.ahead.ensures
    (argument_ends table ps found (ground_of c.args.terms.now) c.args.trail.now.takes.items c.args.trail.now.bindings c.args.trail.now.choices.items c.args.at.now c.args.number c.requires.framed c.args.behind.now here r
    c.in-Some.inner.now (sym c.in-Some.ensures)
    (ap (λ us. is_one (left_of c.in-Some.inner.now.term us)) (sym (c.as_slice.ensures ∙ c.in_ok-uses.ensures)) ∙ sym c.is_taken_whole.ensures ∙ c.if-not-is_taken_whole.false))

pub returns-clause-less : goal.returns-clause-less
returns-clause-less c =
    let further : c.ahead.result.piece ≡ c.args.at.now.piece + 1 = ap (λ (s : Standing). s.piece) c.ahead.ensures in
    let count = c.args.at.now.piece + suc (length c.args.behind.now) in
    let later : c.args.at.now.piece < c.ahead.result.piece = omega (arith, further) in
    let before : c.args.at.now.piece < count = omega arith in
    fewer_on count c.args.at.now 0 0 0 c.args.trail.now.choices.items c.ahead.result None tt later before
