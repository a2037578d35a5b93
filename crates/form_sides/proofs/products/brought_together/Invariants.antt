use Rattle.form_sides.specs.Products.{ArePairedSoFar}
use Rattle.form_sides.proofs.products.brought_together.Given as goal

abbrev pub invariant-loop-front : goal.invariant-loop-front
invariant-loop-front l = ArePairedSoFar l.fn.fronts.items l.front-iterator.rest.items l.list l.table
