use Rattle.std.proofs.Common.{◌≡◌, ◌+◌, suc, [], refl, arith, ap, ◌∙◌, take, get_or}
use Rattle.std.proofs.Math.Seq.{take-suc}
use Rattle.std.proofs.lemmas.List.{take_all}
use Rattle.form_preproc.proofs.Cutting.{cut_none, cut_more, all_are_cut}
use Rattle.form_preproc.proofs.variables.cut_changed.Goals as goal

pub loop-change-init : goal.loop-change-init
loop-change-init c = cut_none [] c.args.firsts.now c.args.stacks.now refl

pub loop-change-preserved : goal.loop-change-preserved
loop-change-preserved c =
    let i = c.loop-change.change-index in
    let h = c.cut_one.ensures in
    let next : i + 1 ≡ suc i = omega arith in
    cut_more (take i c.args.changes.now) (take (i + 1) c.args.changes.now) (get_or c.args.changes.now i (record { place = 0; height = 0 })) c.args.firsts.now c.args.stacks.now c.loop-change.stacks c.cut_one.new.stacks
    c.loop-change.cut c.cut_one.result c.saturating_add-cut.result (ap (λ k. take k c.args.changes.now) next ∙ take-suc c.args.changes.now i (record { place = 0; height = 0 }) c.loop-change-test.true) c.loop-change.invariant h.cut h.counted
    (omega (arith, c.saturating_add-cut.ensures))

pub returns-clause-cut : goal.returns-clause-cut
returns-clause-cut c =
    all_are_cut c.args.changes.now (take c.loop-change.change-index c.args.changes.now) c.args.firsts.now c.args.stacks.now c.loop-change.stacks c.loop-change.cut (take_all c.loop-change.change-index c.args.changes.now c.loop-change-test.false)
    c.requires.all c.requires.told c.loop-change.invariant
