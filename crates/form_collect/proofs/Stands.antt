-- A collector stands for a list by its entries, or since a total has overflowed.
use Rattle.std.proofs.Common.{◌≡◌, true, false, List, ◌++◌, None, sym, subst}
use Rattle.std.specs.Prelude.{MatchBool}
use Rattle.form_term.specs.declared.monomial.Monomial.{Monomial}
use Rattle.form_collect.specs.Collecting.{collected}
use Rattle.form_collect.specs.Collector.{AreTotalsOf, IsCollectionOf}
use Rattle.form_collect.specs.declared.collector.Collector.{Collector}

module _ (c : Collector) (list : List Monomial) where
  -- however the list goes on, a total overflows
  abbrev pub Overflows : Type 0
  Overflows = (rest : List Monomial) → collected (list ++ rest) ≡ None

  pub totals_from : c.has_overflowed ≡ false → IsCollectionOf c list → AreTotalsOf c.sums.entries list
  unfolding IsCollectionOf
  totals_from e h = subst (λ b. MatchBool b Overflows (AreTotalsOf c.sums.entries list)) e h

  pub overflow_from : c.has_overflowed ≡ true → IsCollectionOf c list → Overflows
  unfolding IsCollectionOf
  overflow_from e h = subst (λ b. MatchBool b Overflows (AreTotalsOf c.sums.entries list)) e h

  pub stands_by_totals : c.has_overflowed ≡ false → AreTotalsOf c.sums.entries list → IsCollectionOf c list
  unfolding IsCollectionOf
  stands_by_totals e h = subst (λ b. MatchBool b Overflows (AreTotalsOf c.sums.entries list)) (sym e) h

  pub stands_by_overflow : c.has_overflowed ≡ true → Overflows → IsCollectionOf c list
  unfolding IsCollectionOf
  stands_by_overflow e h = subst (λ b. MatchBool b Overflows (AreTotalsOf c.sums.entries list)) (sym e) h
