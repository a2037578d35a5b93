use Rattle.std.proofs.Common.{take}
use Rattle.std.specs.List.{AllByRecursion}
use Rattle.form_reach.specs.Reach.{IsWithin}
use Rattle.form_reach.proofs.reach.Reach.of_list.Given as goal

-- those so far reach no further
abbrev pub invariant-loop-item : goal.invariant-loop-item
invariant-loop-item l = AllByRecursion (IsWithin l.all) (take l.item-index l.list)
