-- Expressions whose terms a right side may name.
use Rattle.std.specs.Prelude.{ℕ, List, [], ◌∷◌, ◌==◌, if◌then◌else◌}
use Rattle.std.specs.List.Sorted.{IsNonDecreasingBy}
use Rattle.form_term.specs.declared.monomial.Monomial.{Monomial}
use Rattle.form_expand.specs.declared.stored.Stored.{Stored}

-- the terms of the first expression that has this Id; none where none has it
unfoldable pub terms_in : List Stored → ℕ → List Monomial
terms_in [] expression = []
terms_in (s ∷ all) expression = if s.expression == expression then s.terms else terms_in all expression

-- no Id is lower than one before it
abbrev pub Rise : List Stored → Type 0
Rise all = IsNonDecreasingBy (λ (s : Stored). s.expression) all
