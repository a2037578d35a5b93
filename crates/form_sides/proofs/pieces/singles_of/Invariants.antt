use Rattle.std.proofs.Common.{◌≡◌, take}
use Rattle.form_joined.specs.Products.{singles}
use Rattle.form_sides.proofs.pieces.singles_of.Given as goal

abbrev pub invariant-loop-term : goal.invariant-loop-term
invariant-loop-term l = l.all.items ≡ singles (take l.term-index l.terms)
