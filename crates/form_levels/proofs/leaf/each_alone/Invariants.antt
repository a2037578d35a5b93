use Rattle.std.proofs.Common.{◌≡◌, take}
use Rattle.form_joined.specs.Products.{singles}
use Rattle.form_levels.proofs.leaf.each_alone.Given as goal

abbrev pub invariant-loop-item : goal.invariant-loop-item
invariant-loop-item l = l.made.items ≡ singles (take l.item-index l.list)
