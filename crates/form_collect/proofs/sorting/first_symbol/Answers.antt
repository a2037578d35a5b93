use Rattle.std.proofs.Common.{arith, refl}
use Rattle.form_collect.proofs.Places.{rise_next, rise_end, first_next, first_end}
use Rattle.form_collect.proofs.sorting.first_symbol.Goals as goal

pub loop-item-init : goal.loop-item-init
loop-item-init c = (refl, λ lower below left. left)

pub loop-item-preserved : goal.loop-item-preserved
loop-item-preserved c =
    let l = c.loop-item in
    rw c.min-first.ensures (
      first_next c.args.terms.now l.first l.item-index c.item-item.result c.first_of.result c.loop-item-test.true c.item-item.is c.first_of.ensures.is l.invariant.0,
      rise_next c.args.terms.now l.first l.item-index l.invariant.1 c.item-item.result c.first_of.result c.loop-item-test.true c.item-item.is c.first_of.ensures.rise,
    )

pub returns-clause-is : goal.returns-clause-is
returns-clause-is c = first_end c.args.terms.now c.loop-item.first c.loop-item.item-index (omega (arith, c.loop-item-test.false)) c.loop-item.invariant.0

pub returns-clause-rise : goal.returns-clause-rise
returns-clause-rise c = rise_end c.args.terms.now c.loop-item.first c.loop-item.item-index c.loop-item.invariant.1 (omega (arith, c.loop-item-test.false))
