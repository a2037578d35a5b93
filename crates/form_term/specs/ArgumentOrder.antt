-- The order of a function's arguments in its own words, and the exponents by which dot products are ordered.
use Rattle.std.specs.Prelude.{◌≡◌, ℕ, ℤ, pos, ◌==◌, ◌&&◌, List, [], ◌∷◌, if◌then◌else◌}
use Rattle.std.specs.Ordering.{nat_cmp, int_cmp, on, ordering_then, then_cmp}
use Rattle.std.specs.Cmp.Lexicographic.{slice_cmp}
use Rattle.std.specs.declared.cmp.Ordering.{Ordering}
use Rattle.std.specs.declared.cmp.Ordering.TheVariants.{Less, Greater}
use Rattle.form_term.specs.declared.power.DotPower.{DotPower}
use Rattle.form_term.specs.Term.{Term, Summand, Argument, index, vector, expression, index_order, order}

-- The terms of an expression: by their factors, then by the numerators of their coefficients, then by the denominators.
abbrev pub summand_order : Summand → Summand → Ordering
summand_order = then_cmp (on (λ s. s.term) order) (then_cmp (on (λ s. s.coefficient.numerator) int_cmp) (on (λ s. s.coefficient.denominator) nat_cmp))

-- An index comes before a vector, and a vector before an expression. Indices and vectors go by their own order, and
-- expressions term by term, a list that is a front of another first.
abbrev pub argument_order : Argument → Argument → Ordering
argument_order (index i) (index j) = index_order i j
argument_order (index i) (vector w) = Less
argument_order (index i) (expression ts) = Less
argument_order (vector v) (index j) = Greater
argument_order (vector v) (vector w) = nat_cmp v w
argument_order (vector v) (expression ts) = Less
argument_order (expression ss) (index j) = Greater
argument_order (expression ss) (vector w) = Greater
argument_order (expression ss) (expression ts) = slice_cmp summand_order ss ts

-- the exponent of a pair of vectors among such powers, 0 where it is absent
abbrev pub dot_exponent_in : List DotPower → ℕ → ℕ → ℤ
dot_exponent_in [] left right = pos 0
dot_exponent_in (d ∷ ds) left right = if d.left == left && d.right == right then d.exponent else dot_exponent_in ds left right

-- the exponent of a dot product in a term
abbrev pub dot_exponent_of : Term → ℕ → ℕ → ℤ
dot_exponent_of t = dot_exponent_in t.others.dots

-- pairs of vectors stand by the left one, then the right one
abbrev pub IsPairBefore : ℕ → ℕ → ℕ → ℕ → Type 0
IsPairBefore p q left right = ordering_then (nat_cmp p left) (nat_cmp q right) ≡ Less
