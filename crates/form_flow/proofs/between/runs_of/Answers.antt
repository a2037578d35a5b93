use Rattle.std.proofs.Common.{List, ◌++◌, append-nil, append_assoc, map, sym, ap, ◌∙◌}
use Rattle.std.specs.Vec.Iter.{into_iter_items}
use Rattle.form_expand.specs.declared.row.Part.{Part}
use Rattle.form_expand.specs.declared.row.Run.TheVariants as runs
use Rattle.form_expand.specs.Parts.{part_list}
use Rattle.form_expand.specs.Runs.{lists_of, run_lists}
use Rattle.form_flow.proofs.Behind.{nothing_left, run_behind}
use Rattle.form_flow.proofs.between.runs_of.Goals as goal

pub loop-list-preserved : goal.loop-list-preserved
loop-list-preserved c = λ max.
    let left = into_iter_items c.next.new.self in
    let one = c.in-Some.list in
    let before = lists_of max c.loop-list.runs.items in
    ap (λ ls. ls ++ map (part_list max) left) (run_behind max c.loop-list.runs.items c.push.new.self.items (runs.Once one) c.in_ok-push.ensures.items)
    ∙ append_assoc before (run_lists max (runs.Once one)) (map (part_list max) left)
    ∙ ap (λ (ps : List Part). before ++ map (part_list max) ps) (sym c.in-Some.ensures.steps.0)
    ∙ c.loop-list.invariant max

pub returns : goal.returns
returns c = λ max.
    let so_far = lists_of max c.loop-list.runs.items in
    sym (append-nil so_far) ∙ ap (λ (ps : List Part). so_far ++ map (part_list max) ps) (sym (nothing_left c.loop-list.list-iterator c.in-None.ensures.steps.0)) ∙ c.loop-list.invariant max
