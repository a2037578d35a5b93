-- The expressions that stand, as a map keeps them.
use Rattle.std.specs.Prelude.{ℕ, Bool, not, List}
use Rattle.form_term.specs.declared.monomial.Monomial.{Monomial}
use Rattle.form_expand.specs.declared.stored.Stored.{Stored}
use Rattle.form_module.specs.declared.expression_set.ExpressionSet.{ExpressionSet}
use Rattle.form_module.specs.Sets.{has}

-- an expression with its terms
abbrev pub as_stored : ℕ × List Monomial → Stored
as_stored entry = record { expression = entry.0; terms = entry.1 }

-- an expression that isn't one of those that are changed
abbrev pub is_kept : ExpressionSet → Stored → Bool
is_kept changed e = not (has changed e.expression)
