use Rattle.std.proofs.Common.{map, sym, ap, ◌∙◌}
use Rattle.std.specs.List.{list_all}
use Rattle.std.proofs.lemmas.List.{nil_from_length}
use Rattle.form_expand.specs.Often.{keeps_dot, raised_dot}
use Rattle.form_expand.proofs.Repeating.{all_raised, one_kept, one_raised}
use Rattle.form_expand.proofs.repeated.raised_dots.Goals as goal

pub loop-dot-preserved : goal.loop-dot-preserved
loop-dot-preserved c =
    let qs = c.args.factor.now in
    let x = c.in-Some.dot.now in
    let ahead = c.loop-dot.ahead.now in
    let behind = c.in-Some.behind.now in
    let is = c.in-Some.ensures.cases.0 in
    let higher = c.in-Some-raised_dot.ensures in
    record {
      made = one_raised (raised_dot qs c.args.count) c.loop-dot.raised.items c.push.new.self.items x c.in-Some-raised_dot.higher ahead behind (map (raised_dot qs c.args.count) c.args.dots.now) is higher.0 c.in_ok-push.ensures.items c.loop-dot.invariant.made;
      kept = one_kept (keeps_dot qs c.args.count) x ahead behind (list_all (keeps_dot qs c.args.count) c.args.dots.now) is higher.1 c.loop-dot.invariant.kept;
    }

pub returns-clause-made : goal.returns-clause-made
returns-clause-made c =
    let qs = c.args.factor.now in
    all_raised (raised_dot qs c.args.count) c.loop-dot.raised.items c.loop-dot.ahead.now (map (raised_dot qs c.args.count) c.args.dots.now) (nil_from_length c.loop-dot.ahead.now c.in_default.ensures.cases) c.loop-dot.invariant.made

pub returns-clause-kept : goal.returns-clause-kept
returns-clause-kept c =
    let qs = c.args.factor.now in
    sym c.loop-dot.invariant.kept ∙ ap (list_all (keeps_dot qs c.args.count)) (nil_from_length c.loop-dot.ahead.now c.in_default.ensures.cases)
