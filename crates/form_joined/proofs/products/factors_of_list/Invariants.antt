use Rattle.std.proofs.Common.{◌≡◌, take, map}
use Rattle.form_joined.specs.Adding.{joined_of}
use Rattle.form_joined.specs.Products.{singles}
use Rattle.form_joined.proofs.products.factors_of_list.Given as goal

abbrev pub invariant-loop-item : goal.invariant-loop-item
invariant-loop-item l = map joined_of l.factors.items ≡ singles (take l.item-index l.list)
