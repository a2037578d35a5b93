use Rattle.std.proofs.Common.{◌++◌, List, append-nil, map, ap, sym, ◌∙◌}
use Rattle.std.proofs.lemmas.List.{nil_from_length}
use Rattle.form_rewrite.specs.declared.taken.Cut.{Cut}
use Rattle.form_levels.specs.Stretches.{stretches_at, with_origin}
use Rattle.form_levels.proofs.Becoming.{next_stretch}
use Rattle.form_levels.proofs.rewriting.stretches.Goals as goal

pub loop-cut-preserved : goal.loop-cut-preserved
loop-cut-preserved c =
    let w = c.args.term.now.others.word in
    next_stretch w c.loop-cut.made.items c.push.new.self.items c.in_ok-item.item c.in-Some.cut.now c.in-Some.behind.now c.loop-cut.ahead.now (stretches_at w c.args.cuts.now)
    c.in-Some.ensures.cases.0 c.in_ok-push.ensures.items c.in_ok-item.ensures c.loop-cut.invariant

pub returns : goal.returns
returns c =
    let w = c.args.term.now.others.word in
    let made = map with_origin c.loop-cut.made.items in
    sym (append-nil made)
    ∙ ap (λ (cs : List Cut). made ++ stretches_at w cs) (sym (nil_from_length c.loop-cut.ahead.now c.in_default.ensures.cases))
    ∙ c.loop-cut.invariant
