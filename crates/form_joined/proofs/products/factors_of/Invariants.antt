use Rattle.std.proofs.Common.{◌≡◌, take, map}
use Rattle.form_joined.specs.Adding.{joined_of}
use Rattle.form_joined.proofs.products.factors_of.Given as goal

abbrev pub invariant-loop-term : goal.invariant-loop-term
invariant-loop-term l = map joined_of l.factors.items ≡ take l.term-index l.terms
