use Rattle.std.proofs.Common.{◌≡◌, ◌++◌, map}
use Rattle.form_joined.specs.Products.{turned}
use Rattle.form_sides.proofs.products.negated.Given as goal

abbrev pub invariant-loop-term : goal.invariant-loop-term
invariant-loop-term l = map turned l.fn.terms.items ≡ l.all.items ++ map turned l.term-iterator.rest.items
