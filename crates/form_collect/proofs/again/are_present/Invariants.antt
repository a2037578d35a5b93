use Rattle.std.proofs.Common.{◌≡◌, drop, not}
use Rattle.std.specs.List.{list_all}
use Rattle.form_frac.specs.Fraction.{is_zero}
use Rattle.form_term.specs.declared.monomial.Monomial.{Monomial}
use Rattle.form_collect.proofs.again.are_present.Given as goal

abbrev pub invariant-loop-item : goal.invariant-loop-item
invariant-loop-item l = list_all (λ (m : Monomial). not (is_zero m.coefficient)) (drop l.item-index l.list) ≡ list_all (λ (m : Monomial). not (is_zero m.coefficient)) l.list
