use Rattle.std.proofs.Common.{◌≡◌, drop}
use Rattle.std.specs.List.{list_all}
use Rattle.form_term.specs.declared.monomial.Monomial.{Monomial}
use Rattle.form_collect.specs.Keys.{is_whole}
use Rattle.form_collect.proofs.sorting.are_whole.Given as goal

abbrev pub invariant-loop-item : goal.invariant-loop-item
invariant-loop-item l = list_all (λ (m : Monomial). is_whole l.first m.term) (drop l.item-index l.terms) ≡ list_all (λ (m : Monomial). is_whole l.first m.term) l.terms
