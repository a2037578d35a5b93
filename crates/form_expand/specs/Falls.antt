-- A list that is made within another is less deep than it.
use Rattle.std.specs.Prelude.{◌≤◌, List, [], ◌∷◌}
use Rattle.std.proofs.Common.{arith}
use denote.Param.Weighed.{most}
use Rattle.form_expand.specs.declared.list.List as lists
use Rattle.form_expand.specs.declared.list.List.TheVariants.{Whole, Unlimited, Again}
use Rattle.form_expand.specs.declared.product.Level.{Level}
use Rattle.form_expand.specs.declared.product.Product.{Product}
use Rattle.form_expand.specs.declared.again.Again.TheDeep.{deep-Product, deep-Level, deep-List}
use Rattle.form_expand.specs.Depths.{list_depth, levels_depth, product_depth}

list_falls : (l : lists.List) → deep-List l ≤ list_depth l
list_falls (Whole walk) = omega arith
list_falls (Unlimited walk) = omega arith
list_falls (Again again) = omega arith

levels_fall : (ls : List Level) → most deep-Level ls ≤ levels_depth ls
levels_fall [] = omega arith
levels_fall (l ∷ ls) = omega (arith, list_falls l.list, levels_fall ls)

pub no_deeper : (p : Product) → deep-Product p ≤ product_depth p
no_deeper p = omega (arith, levels_fall p.levels.items)
