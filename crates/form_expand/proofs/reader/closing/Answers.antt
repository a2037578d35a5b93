use Rattle.std.proofs.Common.{◌+◌, sym, ap, ◌∙◌, arith, drop}
use Rattle.form_expand.specs.Closings.{closing_at}
use Rattle.form_expand.proofs.Places.{drop_here, drop_past}
use Rattle.form_expand.proofs.Parenthesized.{closing_here, closing_on, closing_none, deep_most}
use Rattle.form_expand.proofs.reader.closing.Goals as goal

pub returns-in-Some : goal.returns-in-Some
returns-in-Some c =
    let ps = c.args.pieces.now in
    let place = c.loop-place.place in
    let piece = c.index-pieces-place.result in
    let rest = drop_here ps place piece c.loop-place-test.true c.index-pieces-place.is in
    sym (closing_here place c.loop-place.depth piece (drop place ps) (drop (place + 1) ps) c.in-Some.end rest (sym c.ended_by.ensures ∙ c.in-Some.is)) ∙ c.loop-place.invariant.place

pub loop-place-preserved : goal.loop-place-preserved
loop-place-preserved c =
    let ps = c.args.pieces.now in
    let place = c.loop-place.place in
    let deep = c.loop-place.depth in
    let piece = c.index-pieces-place.result in
    let rest = drop_here ps place piece c.loop-place-test.true c.index-pieces-place.is in
    let on = closing_on place deep piece (drop place ps) (drop (place + 1) ps) rest (sym c.ended_by.ensures ∙ c.in_default.is) in
    record {
      place = ap (λ d. closing_at (place + 1) d (drop (place + 1) ps)) c.depth_behind-depth.ensures ∙ sym on ∙ c.loop-place.invariant.place;
      deep = omega (arith, c.depth_behind-depth.ensures, deep_most deep piece, c.loop-place.invariant.deep);
    }

pub returns : goal.returns
returns c =
    let ps = c.args.pieces.now in
    sym (closing_none c.loop-place.place c.loop-place.depth (drop c.loop-place.place ps) (drop_past ps c.loop-place.place c.loop-place-test.false)) ∙ c.loop-place.invariant.place
