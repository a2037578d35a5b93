use Rattle.std.proofs.Common.{◌≡◌, [], map, arith}
use Rattle.std.specs.Vec.Iter.{into_iter_items}
use Rattle.std.proofs.lemmas.List.{nil_from_length}
use Rattle.form_expand.specs.Products.{list_waiting}
use Rattle.form_expand.proofs.Leveled.{waits_push, waits_done}
use Rattle.form_expand.proofs.product.waiting_levels.Goals as goal

pub loop-list-preserved : goal.loop-list-preserved
loop-list-preserved c = λ max.
    let left = into_iter_items c.loop-list.list-iterator in
    let rest = into_iter_items c.next.new.self in
    waits_push max c.loop-list.levels.items c.push.new.self.items c.waiting.result c.in-Some.list left rest (map (list_waiting max) c.args.lists.items) c.in_ok-push.ensures.items c.in-Some.ensures.steps.0
    (c.waiting.ensures max) (c.loop-list.invariant max)

pub returns : goal.returns
returns c = λ max.
    let items = into_iter_items c.loop-list.list-iterator in
    let none : items ≡ [] = nil_from_length items (omega (arith, c.in-None.ensures.steps)) in
    waits_done max c.loop-list.levels.items items (map (list_waiting max) c.args.lists.items) none (c.loop-list.invariant max)
