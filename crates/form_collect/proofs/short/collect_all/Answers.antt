use Rattle.form_collect.proofs.ShortLists.{one_more}
use Rattle.form_collect.proofs.short.collect_all.Goals as goal

pub loop-item-preserved : goal.loop-item-preserved
loop-item-preserved c =
    one_more c.loop-item.collector c.add.new.self c.args.list.items c.in-Some.item c.loop-item.item-iterator.rest.items c.next.new.self.rest.items
    c.loop-item.invariant c.in-Some.ensures.steps.0 c.in_ok-add.ensures.ok
