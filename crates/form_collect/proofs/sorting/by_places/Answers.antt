use Rattle.std.proofs.Common.{get_or, refl, arith}
use Rattle.form_collect.proofs.Places.{none_taken, taken_next, taken_end}
use Rattle.form_collect.specs.declared.sorting.Keyed.{Keyed}
use Rattle.form_collect.proofs.sorting.by_places.Goals as goal

pub loop-keyed-init : goal.loop-keyed-init
loop-keyed-init c = rw c.in_ok-list.ensures.items (none_taken c.args.terms.items c.args.keys.now c.requires.within c.requires.apart)

pub loop-keyed-preserved : goal.loop-keyed-preserved
loop-keyed-preserved c =
    let l = c.loop-keyed in
    let none : Keyed = record { key = 0; tie = 0; place = 0 } in
    rw (c.in_ok-push.ensures.items, c.take_at.ensures.left, c.take_at.ensures.taken)
    (taken_next c.args.terms.items c.args.keys.now l.terms.items l.list.items l.keyed-index (get_or c.args.keys.now l.keyed-index none) c.loop-keyed-test.true none refl l.invariant)

pub returns : goal.returns
returns c =
    let l = c.loop-keyed in
    taken_end c.args.terms.items c.args.keys.now l.terms.items l.list.items l.keyed-index (omega (arith, c.loop-keyed-test.false)) l.invariant
