-- What was put and what is left are the whole.
use Rattle.std.proofs.Common.{◌≡◌, ◌++◌, drop}
use Rattle.form_normal.proofs.merging.put_all.Given as goal

abbrev pub invariant-loop-item : goal.invariant-loop-item
invariant-loop-item g l = l.list.items ++ drop l.item-index l.rest ≡ l.initial.list.items ++ l.rest
