use Rattle.std.proofs.Common.{◌≡◌, [], ◌∷◌, ◌++◌, drop}
use Rattle.form_joined.specs.Adding.{joined_of, behind}
use Rattle.form_joined.specs.Products.{singles, times_each}
use Rattle.form_joined.proofs.products.add_row.Given as goal

-- what is made and what is left come to all
abbrev pub invariant-loop-item : goal.invariant-loop-item
invariant-loop-item l = behind l.fn.made.items (times_each (joined_of l.factor) (singles (l.others ++ l.last ∷ []))) ≡ behind l.made.items (times_each (joined_of l.factor) (singles (drop l.item-index l.others ++ l.last ∷ [])))
