use Rattle.std.proofs.Common.{◌≡◌, take, map}
use Rattle.form_joined.specs.Adding.{joined_of}
use Rattle.form_joined.proofs.products.joined_terms.Given as goal

abbrev pub invariant-loop-factor : goal.invariant-loop-factor
invariant-loop-factor l = l.terms.items ≡ map joined_of (take l.factor-index l.factors)
