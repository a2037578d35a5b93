-- Lists of products, made without regard to what is refused.
use Rattle.std.specs.Prelude.{◌≡◌, ℕ, zero, suc, false, List, [], ◌∷◌, flat_map, Option, Some, None, Result, Ok, Err}
use Rattle.std.specs.List.{AllByRecursion}
use Rattle.form_base.specs.declared.cause.Cause.{Cause}
use Rattle.form_term.specs.Term.{Term, IsTerm}
use Rattle.form_term.specs.declared.monomial.Monomial.{Monomial}
use Rattle.form_normal.specs.Product.{product_of}

-- the term of a product, nothing where there is none
abbrev pub term_made : Result (Option Monomial) Cause → List Monomial
term_made (Ok (Some m)) = m ∷ []
term_made (Ok None) = []
term_made (Err cause) = []

-- it isn't refused
abbrev pub IsFine : Result (Option Monomial) Cause → Type 0
IsFine (Ok made) = Unit {0}
IsFine (Err cause) = ⊥

-- a term times each of a list
abbrev pub made_with : List Monomial → Monomial → List Monomial
made_with rs m = flat_map (λ r. term_made (product_of m r)) rs

abbrev pub IsFineWith : List Monomial → Monomial → Type 0
IsFineWith rs m = AllByRecursion (λ r. IsFine (product_of m r)) rs

-- each of a list times each of another
abbrev pub crossed : List Monomial → List Monomial → List Monomial
crossed ms rs = flat_map (made_with rs) ms

abbrev pub AreFine : List Monomial → List Monomial → Type 0
AreFine ms rs = AllByRecursion (IsFineWith rs) ms

-- a list with another so many times behind it
abbrev pub crossed_often : ℕ → List Monomial → List Monomial → List Monomial
crossed_often zero ms rs = ms
crossed_often (suc n) ms rs = crossed_often n (crossed ms rs) rs

abbrev pub AreFineOften : ℕ → List Monomial → List Monomial → Type 0
AreFineOften zero ms rs = Unit {0}
AreFineOften (suc n) ms rs = AreFine ms rs × AreFineOften n (crossed ms rs) rs

-- a term without `i_` and deltas
pub record IsPlainTerm (t : Term) : Type 0 where
  pub real : t.others.is_imaginary ≡ false
  pub undelta : t.others.deltas ≡ []

-- what holds of the factors of a row behind the first one
pub record IsRight (m : Monomial) : Type 0 where
  pub lawful : IsTerm m.term
  pub plain : IsPlainTerm m.term

abbrev pub IsLawful : Monomial → Type 0
IsLawful m = IsTerm m.term
