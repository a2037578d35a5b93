-- A term with its coefficient.
use Rattle.std.specs.Prelude.{pos, List, [], ◌∷◌, map}
use Rattle.form_frac.specs.Fraction.{Fraction, whole, negate}
use Rattle.form_term.specs.declared.power.Power.{Power}
use Rattle.form_term.specs.Term.{one, of_symbols, Summand, Argument, expression}
use Rattle.form_term.specs.declared.monomial.Monomial.{Monomial}

-- 1
abbrev pub unit : Monomial
unit = record { coefficient = whole (pos 1); term = one }

abbrev pub negated : Monomial → Monomial
negated m = record { coefficient = negate m.coefficient; term = m.term }

-- terms with their coefficients as those of an expression
abbrev pub summands_of : List Monomial → List Summand
summands_of ms = map (λ m. record { coefficient = m.coefficient; term = m.term }) ms

-- and back
abbrev pub as_monomial : Summand → Monomial
as_monomial s = record { coefficient = s.coefficient; term = s.term }

-- the arguments that are a number alone, and a power of a symbol alone
abbrev pub number_argument : Fraction → Argument
number_argument q = expression (record { coefficient = q; term = one } ∷ [])

abbrev pub power_argument : Power → Argument
power_argument p = expression (record { coefficient = whole (pos 1); term = of_symbols (p ∷ []) } ∷ [])
