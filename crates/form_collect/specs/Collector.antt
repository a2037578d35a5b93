-- What a collector stands for.
use Rattle.std.specs.Prelude.{◌≡◌, List, ◌++◌, All, MatchBool, None, Some}
use Rattle.std.specs.List.Sorted.{IsPermutation}
use Rattle.std.specs.Map.{keys_of}
use Rattle.form_frac.specs.Fraction.{Fraction}
use Rattle.form_term.specs.Term.{Term}
use Rattle.form_term.specs.declared.monomial.Monomial.{Monomial}
use Rattle.form_collect.specs.Collecting.{terms_of, coefficients_at, total, collected}
use Rattle.form_collect.specs.declared.collector.Collector.{Collector}

-- the entries are the distinct terms of a list in some order, each with its total
pub record AreTotalsOf (entries : List (Term × Fraction)) (list : List Monomial) : Type 0 where
  pub terms : IsPermutation (terms_of list) (keys_of entries)
  pub totals : All (λ e. total (coefficients_at e.0 list) ≡ Some e.1) entries

-- A collector stands for a list of terms with coefficients: it has their totals, or a total has overflowed, and then
-- does so however the list goes on.
unfoldable pub IsCollectionOf : Collector → List Monomial → Type 0
IsCollectionOf c list = MatchBool c.has_overflowed ((rest : List Monomial) → collected (list ++ rest) ≡ None) (AreTotalsOf c.sums.entries list)
