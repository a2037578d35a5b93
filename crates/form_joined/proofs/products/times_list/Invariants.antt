use Rattle.std.proofs.Common.{◌≡◌}
use Rattle.form_joined.specs.Adding.{behind}
use Rattle.form_joined.specs.Products.{paired, singles}
use Rattle.form_joined.proofs.products.times_list.Given as goal

-- what is made and what is left come to all
abbrev pub invariant-loop-front : goal.invariant-loop-front
invariant-loop-front l = paired l.fn.fronts.items (singles l.list) ≡ behind l.made.items (paired l.front-iterator.rest.items (singles l.list))
