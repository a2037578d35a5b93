use Rattle.std.proofs.Common.{◌≡◌, suc, ◌+◌, ◌<◌, List, [], ◌∷◌, length, map, sym, ap, subst, ◌∙◌, arith, length-append}
use Rattle.form_term.specs.declared.piece.Piece.{Piece}
use Rattle.form_term.specs.Arguments.{arguments_of, first_summands}
use Rattle.form_term.specs.Monomial.{as_monomial}
use Rattle.form_term.specs.Term.{AreArguments}
use Rattle.form_match.specs.Parts.{HasFirst}
use Rattle.form_match.specs.declared.places.Inner.{Inner}
use Rattle.form_match.specs.declared.trail.Standing.{Standing}
use Rattle.form_match.specs.Places.{Ground, ground_of}
use Rattle.form_match.proofs.Ending.{further_on, some_from}
use Rattle.form_match.proofs.Onward.{lawful_somewhere}
use Rattle.form_match.proofs.Products.{coefficient_on, no_arguments_on, others_on, product_on}
use Rattle.form_match.proofs.arguments.product.Goals as goal

pub first_argument-requires : goal.first_argument-requires
first_argument-requires c = subst AreArguments (sym c.pieces-pieces.ensures.value) (lawful_somewhere c.requires.stands c.requires.framed)

pub terms_in-requires : goal.terms_in-requires
terms_in-requires c = subst AreArguments (sym c.pieces-pieces.ensures.value) (lawful_somewhere c.requires.stands c.requires.framed)

pub returns-in_default-clause-goes_on : goal.returns-in_default-clause-goes_on
returns-in_default-clause-goes_on c = λ table ps found here r.
    no_arguments_on table ps found (ground_of c.args.terms.now) c.args.at.now c.args.span.now c.args.behind.now c.args.trail.now c.requires.framed r here (sym c.pieces-pieces.ensures.value ∙ c.in_default.ensures)

pub returns-in_default-clause-less : goal.returns-in_default-clause-less
returns-in_default-clause-less c = omega (arith, some_from (c.args.at.now.piece + suc (length c.args.behind.now)) c.args.at.now)

pub returns-in_default-only_one-clause-goes_on : goal.returns-in_default-only_one-clause-goes_on
returns-in_default-only_one-clause-goes_on c = λ table ps found here r.
    others_on table ps found (ground_of c.args.terms.now) c.args.at.now c.args.span.now c.args.behind.now c.args.trail.now c.requires.framed r here c.in_ok-terms_in.field-0.items
    (c.in_ok-terms_in.ensures.first ∙ ap (λ (qs : List Piece). map as_monomial (first_summands (arguments_of qs))) c.pieces-pieces.ensures.value) c.in_default-only_one.ensures

pub returns-then-not-is_one-clause-goes_on : goal.returns-then-not-is_one-clause-goes_on
returns-then-not-is_one-clause-goes_on c = λ table ps found here r.
    coefficient_on table ps found (ground_of c.args.terms.now) c.args.at.now c.args.span.now c.args.behind.now c.args.trail.now c.requires.framed r here c.in_ok-terms_in.field-0.items
    (c.in_ok-terms_in.ensures.first ∙ ap (λ (qs : List Piece). map as_monomial (first_summands (arguments_of qs))) c.pieces-pieces.ensures.value) c.in-Some-only_one.only c.in-Some-only_one.ensures
    (sym c.is_one.ensures ∙ c.if-not-is_one.true)

pub returns-in_default-only_one-clause-less : goal.returns-in_default-only_one-clause-less
returns-in_default-only_one-clause-less c = omega (arith, some_from (c.args.at.now.piece + suc (length c.args.behind.now)) c.args.at.now)

pub returns-then-not-is_one-clause-less : goal.returns-then-not-is_one-clause-less
returns-then-not-is_one-clause-less c = omega (arith, some_from (c.args.at.now.piece + suc (length c.args.behind.now)) c.args.at.now)

pub returns-clause-goes_on : goal.returns-clause-goes_on
returns-clause-goes_on c = λ table ps found here r.
    let g = ground_of c.args.terms.now in
    let more = c.in_ok-push.ensures in
    let inner : Inner = record { term = c.in-Some-only_one.only.term; behind = c.without-others.result } in
    rw c.ahead.ensures
    (product_on table ps found g c.args.at.now c.args.span.now c.args.behind.now c.args.trail.now c.requires.framed r here c.in_ok-terms_in.field-0.items
    (c.in_ok-terms_in.ensures.first ∙ ap (λ (qs : List Piece). map as_monomial (first_summands (arguments_of qs))) c.pieces-pieces.ensures.value) c.in-Some-only_one.only c.in-Some-only_one.ensures
    (ground_of c.push.new.self) c.in-Some.part.now c.in-Some.field-0-1.now c.without-others.result c.count.result (sym c.is_one.ensures ∙ c.if-not-is_one.false)
    (subst (λ (qs : List Piece). HasFirst qs c.in-Some.part.now c.in-Some.field-0-1.now) c.pieces-pieces.ensures.value c.in-Some.ensures) c.without-others.ensures more
    (c.count.ensures ∙ ap (λ (x : Ground). length x.inners) more ∙ length-append g.inners (inner ∷ [])))

pub returns-clause-less : goal.returns-clause-less
returns-clause-less c =
    let further : c.ahead.result.piece ≡ c.args.at.now.piece + 1 = ap (λ (s : Standing). s.piece) c.ahead.ensures in
    let count = c.args.at.now.piece + suc (length c.args.behind.now) in
    let later : c.args.at.now.piece < c.ahead.result.piece = omega (arith, further) in
    let before : c.args.at.now.piece < count = omega arith in
    omega (arith, further_on count c.args.at.now c.ahead.result later before)
