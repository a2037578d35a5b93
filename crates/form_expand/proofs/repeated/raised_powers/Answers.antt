use Rattle.std.proofs.Common.{map, sym, ap, ◌∙◌}
use Rattle.std.specs.List.{list_all}
use Rattle.std.proofs.lemmas.List.{nil_from_length}
use Rattle.form_expand.specs.Often.{keeps_power, raised_power}
use Rattle.form_expand.proofs.Repeating.{all_raised, one_kept, one_raised}
use Rattle.form_expand.proofs.repeated.raised_powers.Goals as goal

pub loop-power-preserved : goal.loop-power-preserved
loop-power-preserved c =
    let qs = c.args.factor.now in
    let x = c.in-Some.power.now in
    let ahead = c.loop-power.ahead.now in
    let behind = c.in-Some.behind.now in
    let is = c.in-Some.ensures.cases.0 in
    let higher = c.in-Some-raised_power.ensures in
    record {
      made = one_raised (raised_power qs c.args.count) c.loop-power.raised.items c.push.new.self.items x c.in-Some-raised_power.higher ahead behind (map (raised_power qs c.args.count) c.args.powers.now) is higher.0 c.in_ok-push.ensures.items c.loop-power.invariant.made;
      kept = one_kept (keeps_power qs c.args.count) x ahead behind (list_all (keeps_power qs c.args.count) c.args.powers.now) is higher.1 c.loop-power.invariant.kept;
    }

pub returns-clause-made : goal.returns-clause-made
returns-clause-made c =
    let qs = c.args.factor.now in
    all_raised (raised_power qs c.args.count) c.loop-power.raised.items c.loop-power.ahead.now (map (raised_power qs c.args.count) c.args.powers.now) (nil_from_length c.loop-power.ahead.now c.in_default.ensures.cases) c.loop-power.invariant.made

pub returns-clause-kept : goal.returns-clause-kept
returns-clause-kept c =
    let qs = c.args.factor.now in
    sym c.loop-power.invariant.kept ∙ ap (list_all (keeps_power qs c.args.count)) (nil_from_length c.loop-power.ahead.now c.in_default.ensures.cases)
