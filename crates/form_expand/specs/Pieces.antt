-- Factors that are one piece.
use Rattle.std.specs.Prelude.{◌≡◌, ℕ, List, [], ◌∷◌, Option, Some, None}
use Rattle.form_tree.specs.declared.tree.Piece.{Piece}
use Rattle.form_tree.specs.declared.tree.Piece.TheVariants as pieces
use Rattle.form_expand.specs.Bound.{wild_list, exponent_in, list_of_base}
use Rattle.form_expand.specs.Meanings.{Meanings, terms_of, index_of, vector_of, component_of}
use Rattle.form_expand.specs.declared.whole.Whole.{Whole}
use Rattle.form_expand.specs.Kept.{listed}
use Rattle.form_expand.specs.Listing.{Listing}
use Rattle.form_expand.specs.Numbers.{number_list, symbol_list}
use Rattle.form_expand.specs.Singles.{imaginary_list, dot_list, component_list, delta_list}

-- the list of such a factor, and its power
abbrev pub list_of_piece : Meanings → Piece → Option (Listing × ℕ)
list_of_piece all (pieces.Number link value power) = Some (number_list value power, 1)
list_of_piece all (pieces.Symbol link symbol power) = Some (symbol_list symbol power, 1)
list_of_piece all (pieces.Wild link symbol is_over power) = Some (wild_list all symbol is_over power)
list_of_piece all (pieces.Raised link base by) = Some (list_of_base all base by.is_over (exponent_in all by.is_minus by.symbol))
list_of_piece all (pieces.Stored link expression power) = Some (record { terms = terms_of all expression; end = None }, power)
list_of_piece all (pieces.Imaginary link power) = Some (imaginary_list, power)
list_of_piece all (pieces.Dot link p q power) = Some (dot_list (vector_of all p) (vector_of all q) power, 1)
list_of_piece all (pieces.Component link c power) = Some (component_list (component_of all c), power)
list_of_piece all (pieces.Delta link i j power) = Some (delta_list (index_of all i) (index_of all j), power)
list_of_piece all (pieces.Function link f is_commuting) = None
list_of_piece all (pieces.EndOfFunction power) = None
list_of_piece all (pieces.EndOfRaisedFunction by) = None
list_of_piece all (pieces.Field w) = None
list_of_piece all (pieces.Index i) = None
list_of_piece all (pieces.Vector v) = None
list_of_piece all pieces.Argument = None
list_of_piece all pieces.EndOfArgument = None
list_of_piece all (pieces.Open link) = None
list_of_piece all (pieces.Close power) = None
list_of_piece all (pieces.CloseRaised by) = None

-- these pieces begin with such a factor
abbrev pub BeginsWith : Meanings → Listing → ℕ → List Piece → Type 0
BeginsWith all l power [] = ⊥
BeginsWith all l power (piece ∷ more) = list_of_piece all piece ≡ Some (l, power)

-- the same of `i_` and of what is made of vectors and indices
abbrev pub list_of_vectors : Meanings → Piece → Option (Listing × ℕ)
list_of_vectors all (pieces.Imaginary link power) = Some (imaginary_list, power)
list_of_vectors all (pieces.Dot link p q power) = Some (dot_list (vector_of all p) (vector_of all q) power, 1)
list_of_vectors all (pieces.Component link c power) = Some (component_list (component_of all c), power)
list_of_vectors all (pieces.Delta link i j power) = Some (delta_list (index_of all i) (index_of all j), power)
list_of_vectors all p = None

-- what was found, as lists
abbrev pub listed_alone : Option (Whole × ℕ) → Option (Listing × ℕ)
listed_alone None = None
listed_alone (Some w) = Some (listed w)
