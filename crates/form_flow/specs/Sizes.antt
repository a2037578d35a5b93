-- How large terms are in the arguments of a function.
use Rattle.std.specs.Prelude.{ℕ, suc}
use Rattle.form_term.specs.declared.monomial.Monomial.{Monomial}
use Rattle.form_term.specs.Term.{size}

-- a term of an argument, with its end
abbrev pub weight : Monomial → ℕ
weight m = suc (size m.term)
