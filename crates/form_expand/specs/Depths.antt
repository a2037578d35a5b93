-- How deep lists that are being made stand within one another.
use Rattle.std.specs.Prelude.{ℕ, ◌+◌, List, [], ◌∷◌}
use Rattle.form_expand.specs.declared.list.List as lists
use Rattle.form_expand.specs.declared.list.List.TheVariants.{Whole, Unlimited, Again}
use Rattle.form_expand.specs.declared.product.Level.{Level}
use Rattle.form_expand.specs.declared.product.Product.{Product}

abbrev pub list_depth : lists.List → ℕ
list_depth (Whole walk) = 0
list_depth (Unlimited walk) = 0
list_depth (Again again) = again.value.depth + 1

-- at most so deep
abbrev pub levels_depth : List Level → ℕ
levels_depth [] = 0
levels_depth (l ∷ ls) = list_depth l.list + levels_depth ls

abbrev pub product_depth : Product → ℕ
product_depth p = levels_depth p.levels.items
