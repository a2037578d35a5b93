use Rattle.std.proofs.Common.{take}
use Rattle.std.specs.List.{AllByRecursion}
use Rattle.form_frac.specs.Fraction.{IsLowest}
use Rattle.form_term.specs.declared.monomial.Monomial.{Monomial}
use Rattle.form_joined.proofs.products.joined_singles.Given as goal

abbrev pub invariant-loop-item : goal.invariant-loop-item
invariant-loop-item l = AllByRecursion (λ (m : Monomial). IsLowest m.coefficient) (take l.item-index l.list)
