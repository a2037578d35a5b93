-- What can be recorded and read back alike.
use Rattle.std.specs.Prelude.{◌≡◌, false, [], ◌∷◌, Some, Ok}
use Rattle.form_frac.specs.Fraction.{IsLowest, is_zero}
use Rattle.form_term.specs.declared.monomial.Monomial.{Monomial}
use Rattle.form_term.specs.Named.{Places, IsNamed, IsSummand}
use Rattle.form_normal.specs.Factors.{AreEachLawful}
use Rattle.form_normal.specs.Product.{product}

-- a term with its coefficient is its own product
abbrev pub IsOwn : Monomial → Type 0
IsOwn m = product (m ∷ []) ≡ Ok (Some m)

-- A term that can be recorded: one of an expression, with its coefficient, that is its own product.
pub record IsRecordable (names : Places) (m : Monomial) : Type 0 where
  pub summand : IsSummand names m
  pub own : IsOwn m

-- What holds of a factor whose products can be recorded, in whatever order its own factors are and however large.
pub record IsFactor (names : Places) (m : Monomial) : Type 0 where
  pub named : IsNamed names m.term
  pub each : AreEachLawful m.term.others
  pub lowest : IsLowest m.coefficient
  pub present : is_zero m.coefficient ≡ false
