use Rattle.std.proofs.Common.{◌≡◌, map}
use Rattle.form_joined.specs.Adding.{behind, joined_of}
use Rattle.form_joined.specs.Products.{paired}
use Rattle.form_joined.proofs.products.times_joined.Given as goal

-- what is made and what is left come to all
abbrev pub invariant-loop-front : goal.invariant-loop-front
invariant-loop-front l = paired l.fn.fronts.items (map joined_of l.factors.items) ≡ behind l.made.items (paired l.front-iterator.rest.items (map joined_of l.factors.items))
