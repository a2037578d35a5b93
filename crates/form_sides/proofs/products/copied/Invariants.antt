use Rattle.std.proofs.Common.{◌≡◌, take}
use Rattle.form_sides.proofs.products.copied.Given as goal

abbrev pub invariant-loop-term : goal.invariant-loop-term
invariant-loop-term l = l.all.items ≡ take l.term-index l.terms
