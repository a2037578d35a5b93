use Rattle.std.proofs.Common.{take}
use Rattle.std.specs.List.{AllByRecursion}
use Rattle.form_reach.specs.Rows.{IsRight}
use Rattle.form_joined.proofs.powers.are_right.Given as goal

abbrev pub invariant-loop-item : goal.invariant-loop-item
invariant-loop-item l = AllByRecursion IsRight (take l.item-index l.list)
