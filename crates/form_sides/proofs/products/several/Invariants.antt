use Rattle.std.proofs.Common.{◌≤◌}
use Rattle.form_sides.specs.Products.{HavePower}
use Rattle.form_sides.proofs.products.several.Given as goal

-- the front has the list of so many factors
abbrev pub invariant-loop-made : goal.invariant-loop-made
invariant-loop-made l = record {
  some : 1 ≤ l._made;
  list : HavePower l.limit l.list.items l._made l.front.items;
}
