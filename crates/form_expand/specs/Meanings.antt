-- What names stand for in a right side: expressions for their terms, and wildcards for what a match gave them.
use Rattle.std.specs.Prelude.{ℕ, ℤ, pos, ◌==◌, ◌&&◌, List, [], ◌∷◌, map, Option, Some, None, option_map, option_and_then, if◌then◌else◌}
use Rattle.std.specs.Option.{unwrap_or}
use Rattle.form_term.specs.declared.index.Component.{Component}
use Rattle.form_term.specs.declared.index.Index.{Index}
use Rattle.form_term.specs.declared.index.Index.TheVariants as indices
use Rattle.form_term.specs.declared.monomial.Monomial.{Monomial}
use Rattle.form_term.specs.declared.piece.Piece.{Piece}
use Rattle.form_term.specs.declared.piece.Piece.TheVariants as pieces
use Rattle.form_term.specs.Arguments.{arguments_of, first_summands}
use Rattle.form_term.specs.Monomial.{as_monomial}
use Rattle.form_term.specs.Term.{Argument, is_nil, is_nothing}
use Rattle.form_bindings.specs.declared.bindings.Wildcard.TheVariants.{Name, Field}
use Rattle.form_bindings.specs.Values.{Binding, value_of}
use Rattle.form_expand.specs.declared.stored.Stored.{Stored}
use Rattle.form_expand.specs.Stored.{terms_in}

-- Expressions stand for their terms, wildcards for the pieces of arguments.
pub record Meanings : Type 0 where
  pub stored : List Stored
  pub bindings : List Binding

-- the bindings of what has some
abbrev pub or_unbound : Option (List Binding) → List Binding
or_unbound None = []
or_unbound (Some bs) = bs

-- names of expressions alone stand for something
abbrev pub of_stored : List Stored → Meanings
of_stored all = record { stored = all; bindings = [] }

-- nothing stands for anything else
abbrev pub no_meanings : Meanings
no_meanings = of_stored []

-- wildcards alone stand for something
abbrev pub bound_to : List Binding → Meanings
bound_to bs = record { stored = []; bindings = bs }

abbrev pub terms_of : Meanings → ℕ → List Monomial
terms_of all expression = terms_in all.stored expression

-- what a value is where it is one thing: an index, a vector, a function
abbrev pub index_in : List Piece → Option Index
index_in (pieces.Index i ∷ ps) = Some i
index_in ps = None

abbrev pub vector_in : List Piece → Option ℕ
vector_in (pieces.Vector v ∷ ps) = Some v
vector_in ps = None

abbrev pub function_in : List Piece → Option ℕ
function_in (pieces.Function f ∷ ps) = Some f
function_in ps = None

-- A name that isn't bound, or not to a thing of its kind, stands for itself.
abbrev pub index_of : Meanings → Index → Index
index_of all (indices.Fixed n) = indices.Fixed n
index_of all (indices.Declared n) = unwrap_or (option_and_then index_in (value_of all.bindings (Name n))) (indices.Declared n)
index_of all (indices.Dummy n) = indices.Dummy n

abbrev pub vector_of : Meanings → ℕ → ℕ
vector_of all v = unwrap_or (option_and_then vector_in (value_of all.bindings (Name v))) v

abbrev pub component_of : Meanings → Component → Component
component_of all c = record { vector = vector_of all c.vector; index = index_of all c.index }

abbrev pub function_of : Meanings → ℕ → ℕ
function_of all f = unwrap_or (option_and_then function_in (value_of all.bindings (Name f))) f

-- the arguments that a field stands for: none where it isn't bound
abbrev pub arguments_or_none : Option (List Piece) → List Argument
arguments_or_none None = []
arguments_or_none (Some ps) = arguments_of ps

abbrev pub field_of : Meanings → ℕ → List Argument
field_of all w = arguments_or_none (value_of all.bindings (Field w))

-- the expression that a symbol stands for, by its pieces
abbrev pub expression_in : List Piece → Option (List Piece)
expression_in (pieces.Sum ∷ ps) = Some (pieces.Sum ∷ ps)
expression_in ps = None

abbrev pub expression_of : Meanings → ℕ → Option (List Piece)
expression_of all s = option_and_then expression_in (value_of all.bindings (Name s))

-- the terms of that expression
abbrev pub terms_at : List Piece → List Monomial
terms_at ps = map as_monomial (first_summands (arguments_of ps))

abbrev pub terms_bound : Meanings → ℕ → Option (List Monomial)
terms_bound all s = option_map terms_at (expression_of all s)

-- the whole number that these terms are
abbrev pub number_in : Monomial → Option ℤ
number_in m = if is_nil m.term.symbols && is_nothing m.term.others && (m.coefficient.denominator == 1) then Some m.coefficient.numerator else None

abbrev pub whole_number : List Monomial → Option ℤ
whole_number [] = Some (pos 0)
whole_number (m ∷ []) = number_in m
whole_number (m ∷ n ∷ ms) = None

-- the whole number that a wildcard stands for
abbrev pub exponent_bound : Meanings → ℕ → Option ℤ
exponent_bound all n = option_and_then whole_number (terms_bound all n)
