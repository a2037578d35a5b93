-- Products of coefficients, from the left.
use Rattle.std.proofs.Common.{◌≡◌, List, [], ◌∷◌, refl}
use Rattle.std.specs.Prelude.{Option, None, fold, option_and_then}
use Rattle.form_frac.specs.Fraction.{Fraction, multiply}
use Rattle.form_term.specs.declared.monomial.Monomial.{Monomial}

-- a product so far, times the coefficients that are left
abbrev pub times_all : Option Fraction → List Monomial → Option Fraction
times_all c ms = fold (λ c n. option_and_then (λ a. multiply a n.coefficient) c) c ms

pub times_none : (ms : List Monomial) → times_all None ms ≡ None
times_none [] = refl
times_none (m ∷ ms) = times_none ms
