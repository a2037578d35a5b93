use Rattle.std.proofs.Common.{◌≡◌, ◌++◌, ℕ, map}
use Rattle.std.specs.Vec.Iter.{into_iter_items}
use Rattle.form_expand.specs.Products.{level_waiting, list_waiting}
use Rattle.form_expand.proofs.product.waiting_levels.Given as goal

-- the levels so far, and those of the lists that are left
abbrev pub invariant-loop-list : goal.invariant-loop-list
invariant-loop-list l = (max : ℕ) → map (level_waiting max) l.levels.items ++ map (list_waiting max) (into_iter_items l.list-iterator) ≡ map (list_waiting max) l.fn.lists.items
