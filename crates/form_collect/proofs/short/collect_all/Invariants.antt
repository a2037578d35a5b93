use Rattle.form_collect.proofs.ShortLists.{IsBegun}
use Rattle.form_collect.proofs.short.collect_all.Given as goal

-- the collector stands for what came before
abbrev pub invariant-loop-item : goal.invariant-loop-item
invariant-loop-item l = IsBegun l.collector l.fn.list.items l.item-iterator.rest.items
