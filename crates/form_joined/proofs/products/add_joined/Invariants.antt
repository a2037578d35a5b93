use Rattle.std.proofs.Common.{◌≡◌, drop, map}
use Rattle.form_joined.specs.Adding.{joined_of, behind}
use Rattle.form_joined.specs.Products.{times_each}
use Rattle.form_joined.proofs.products.add_joined.Given as goal

-- what is made and what is left come to all
abbrev pub invariant-loop-factor : goal.invariant-loop-factor
invariant-loop-factor l = behind l.fn.made.items (times_each l.fn.front (map joined_of l.factors)) ≡ behind l.made.items (times_each (joined_of l.left) (map joined_of (drop l.factor-index l.factors)))
