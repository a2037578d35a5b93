use Rattle.std.proofs.Common.{◌≡◌, ◌-◌, suc, arith, subst}
use Rattle.form_preproc.proofs.Changes.{AreFilled, filled_none, filled_set, filled_past, firsts_filled}
use Rattle.form_preproc.proofs.journal.fill_firsts.Goals as goal

pub loop-at-init : goal.loop-at-init
loop-at-init c = filled_none c.args.changes.now c.args.firsts.now

pub loop-at-preserved-then-change-firsts : goal.loop-at-preserved-then-change-firsts
loop-at-preserved-then-change-firsts c =
    let again : c.loop-at.at ≡ suc (c.loop-at.at - 1) = omega (arith, c.loop-at-test.true) in
    filled_set c.args.changes.now (c.loop-at.at - 1) (record { place = 0; height = 0 }) c.args.firsts.now c.loop-at.firsts (omega (arith, c.loop-at-test.true, c.loop-at.invariant.within)) c.if-change-firsts.true
    (subst (λ at. AreFilled c.args.changes.now at c.args.firsts.now c.loop-at.firsts) again c.loop-at.invariant)

pub loop-at-preserved : goal.loop-at-preserved
loop-at-preserved c =
    let again : c.loop-at.at ≡ suc (c.loop-at.at - 1) = omega (arith, c.loop-at-test.true) in
    filled_past c.args.changes.now (c.loop-at.at - 1) (record { place = 0; height = 0 }) c.args.firsts.now c.loop-at.firsts (omega (arith, c.loop-at-test.true, c.loop-at.invariant.within)) c.if-change-firsts.false
    (subst (λ at. AreFilled c.args.changes.now at c.args.firsts.now c.loop-at.firsts) again c.loop-at.invariant)

pub returns-clause-found : goal.returns-clause-found
returns-clause-found c = firsts_filled c.args.changes.now c.loop-at.at c.args.firsts.now c.loop-at.firsts (omega (arith, c.loop-at-test.false)) c.loop-at.invariant
