-- How far terms with their coefficients reach at most.
use Rattle.std.specs.Prelude.{◌≤◌, ℕ, zero, suc, ◌+◌, ◌*◌, nat_abs, List, [], ◌∷◌, Option, Some, None, Result, Ok, Err}
use Rattle.form_base.specs.declared.cause.Cause.{Cause}
use Rattle.form_frac.specs.Fraction.{Fraction, IsLowest}
use Rattle.form_frac.specs.Weight.{Weight, IsWeight}
use Rattle.form_term.specs.declared.power.DotPower.{DotPower}
use Rattle.form_term.specs.declared.monomial.Monomial.{Monomial}
use Rattle.form_term.specs.Term.{Term, IsTerm, exponent_of, size, largest_exponent, largest_size}
use Rattle.form_reach.specs.declared.reach.Reach.{Reach}

-- both parts of a fraction are no larger than those of a weight
pub record IsUnder (w : Weight) (f : Fraction) : Type 0 where
  pub lowest : IsLowest f
  pub below : f.denominator ≤ w.denominator
  pub above : nat_abs f.numerator ≤ w.size

-- the sizes of the exponents of dot products in all
abbrev pub degree_of_dots : List DotPower → ℕ
degree_of_dots [] = 0
degree_of_dots (d ∷ ds) = nat_abs d.exponent + degree_of_dots ds

-- A term with its coefficient reaches so far at most.
pub record IsWithin (r : Reach) (m : Monomial) : Type 0 where
  pub lawful : IsTerm m.term
  pub symbols : (symbol : ℕ) → nat_abs (exponent_of m.term symbol) ≤ r.exponents
  pub dots : degree_of_dots m.term.others.dots ≤ r.exponents
  pub small : size m.term ≤ r.size
  pub coefficient : IsUnder r.weight m.coefficient

-- a product isn't refused, and reaches so far at most
abbrev pub IsMadeWithin : Reach → Result (Option Monomial) Cause → Type 0
IsMadeWithin r (Ok (Some m)) = IsWithin r m
IsMadeWithin r (Ok None) = Unit {0}
IsMadeWithin r (Err cause) = ⊥

-- how far products of terms within these reach
abbrev pub both : Reach → Reach → Reach
both r s = record {
  exponents = r.exponents + s.exponents;
  size = r.size + s.size;
  weight = record { denominator = r.weight.denominator * s.weight.denominator; size = r.weight.size * s.weight.size };
}

-- what reaches so far is within the limits of terms and of fractions
pub record IsInLimits (r : Reach) : Type 0 where
  pub exponents : r.exponents ≤ largest_exponent
  pub small : r.size ≤ largest_size
  pub weight : IsWeight r.weight

-- So many products with terms within the second, one after the other, stay within the limits.
abbrev pub StaysWithin : ℕ → Reach → Reach → Type 0
StaysWithin zero r s = Unit {0}
StaysWithin (suc n) r s = IsInLimits (both r s) × StaysWithin n (both r s) s
