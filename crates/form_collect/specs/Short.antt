-- Lists of two terms.
use Rattle.std.specs.Prelude.{◌≡◌, false, List, [], ◌∷◌, Some}
use Rattle.std.specs.declared.cmp.Ordering.{Ordering}
use Rattle.form_frac.specs.Fraction.{Fraction, is_zero}
use Rattle.form_term.specs.Term.{order}
use Rattle.form_term.specs.declared.monomial.Monomial.{Monomial}
use Rattle.form_collect.specs.Collecting.{collected}

-- two terms stand so to each other, and neither has the coefficient 0
pub record AreOrdered (a b : Monomial) (r : Ordering) : Type 0 where
  pub first : is_zero a.coefficient ≡ false
  pub second : is_zero b.coefficient ≡ false
  pub ordered : order a.term b.term ≡ r

-- a list of two terms is collected by exchanging them
abbrev pub IsExchanged : List Monomial → Type 0
IsExchanged [] = ⊥
IsExchanged (a ∷ []) = ⊥
IsExchanged (a ∷ b ∷ []) = collected (a ∷ b ∷ []) ≡ Some (b ∷ a ∷ [])
IsExchanged (a ∷ b ∷ c ∷ ms) = ⊥

-- a list of two terms is collected to one of them, with this coefficient
abbrev pub IsAdded : List Monomial → Fraction → Type 0
IsAdded [] c = ⊥
IsAdded (a ∷ []) c = ⊥
IsAdded (a ∷ b ∷ []) c = collected (a ∷ b ∷ []) ≡ Some (record { coefficient = c; term = a.term } ∷ [])
IsAdded (a ∷ b ∷ d ∷ ms) c = ⊥
