use Rattle.std.proofs.Common.{◌+◌, sym, ap, ◌∙◌, arith, drop}
use Rattle.form_expand.specs.Closings.{closing_at}
use Rattle.form_expand.specs.declared.ended.Ended.TheVariants.{Power}
use Rattle.form_expand.proofs.Places.{drop_here}
use Rattle.form_expand.proofs.Parenthesized.{closing_here, closing_on, deep_most}
use Rattle.form_sides.proofs.pieces.closing.Goals as goal

pub returns-in-Ends : goal.returns-in-Ends
returns-in-Ends c =
    let ps = c.args.pieces.now in
    let place = c.loop-place.place in
    let piece = c.index-pieces-place.result in
    let rest = drop_here ps place piece c.loop-place-test.true c.index-pieces-place.is in
    sym c.loop-place.invariant.place ∙ closing_here place c.loop-place.depth piece (drop place ps) (drop (place + 1) ps) (Power c.in-Ends.power) rest (rw c.in-Ends.is at c.opened_by.ensures)

pub loop-place-preserved : goal.loop-place-preserved
loop-place-preserved c =
    let ps = c.args.pieces.now in
    let place = c.loop-place.place in
    let deep = c.loop-place.depth in
    let piece = c.index-pieces-place.result in
    let rest = drop_here ps place piece c.loop-place-test.true c.index-pieces-place.is in
    let nested = rw c.in-Within.is at c.opened_by.ensures in
    let on = closing_on place deep piece (drop place ps) (drop (place + 1) ps) rest nested.0 in
    record {
      place = ap (λ d. closing_at (place + 1) d (drop (place + 1) ps)) nested.1 ∙ sym on ∙ c.loop-place.invariant.place;
      deep = omega (arith, nested.1, deep_most deep piece, c.loop-place.invariant.deep);
    }
