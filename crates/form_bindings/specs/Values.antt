-- What wildcards stand for: arguments of a function, as their pieces. A symbol stands for an expression, a field for any
-- number of arguments, and a function for itself.
use Rattle.std.specs.Prelude.{◌≡◌, ◌⊎◌, ℕ, ℤ, pos, nat_abs, ◌==◌, Bool, false, List, [], ◌∷◌, Option, Some, None, if◌then◌else◌}
use Rattle.std.specs.Ordering.{eq_by_cmp}
use Rattle.std.specs.Cmp.Lexicographic.{slice_cmp}
use Rattle.form_frac.specs.Fraction.{whole}
use Rattle.form_term.specs.declared.index.Index.{Index}
use Rattle.form_term.specs.declared.piece.Piece.{Piece}
use Rattle.form_term.specs.declared.piece.Piece.TheVariants as pieces
use Rattle.form_term.specs.Pieces.{piece_order}
use Rattle.form_term.specs.Term.{AreArguments, one, of_symbols, index, vector, expression, pieces_of_argument}
use Rattle.form_bindings.specs.declared.bindings.Wildcard.{Wildcard}
use Rattle.form_bindings.specs.declared.bindings.Wildcard.TheVariants.{Name, Field}

-- the expression that is a symbol alone, and that of a whole number, which is empty for 0
abbrev pub symbol_value : ℕ → List Piece
symbol_value s = pieces_of_argument (expression (record { coefficient = whole (pos 1); term = of_symbols (record { symbol = s; exponent = pos 1 } ∷ []) } ∷ []))

abbrev pub number_value : ℤ → List Piece
number_value n = pieces_of_argument (expression (if nat_abs n == 0 then [] else record { coefficient = whole n; term = one } ∷ []))

abbrev pub index_value : Index → List Piece
index_value i = pieces_of_argument (index i)

abbrev pub vector_value : ℕ → List Piece
vector_value v = pieces_of_argument (vector v)

abbrev pub function_value : ℕ → List Piece
function_value f = pieces.Function f ∷ []

-- whether two values are one
abbrev pub is_same : List Piece → List Piece → Bool
is_same = eq_by_cmp (slice_cmp piece_order)

abbrev pub is_same_wildcard : Wildcard → Wildcard → Bool
is_same_wildcard (Name a) (Name b) = a == b
is_same_wildcard (Field a) (Field b) = a == b
is_same_wildcard _ _ = false

-- a wildcard and its value
pub record Binding : Type 0 where
  pub wildcard : Wildcard
  pub value : List Piece

abbrev pub binding : Wildcard → List Piece → Binding
binding w value = record { wildcard = w; value = value }

-- what a wildcard may stand for: a field for arguments, a name for arguments or a function
abbrev pub IsValueOf : Wildcard → List Piece → Type 0
IsValueOf (Name n) value = AreArguments value ⊎ ((f : ℕ) × (value ≡ function_value f))
IsValueOf (Field w) value = AreArguments value

-- what a wildcard stands for, where it is bound
unfoldable pub value_of : List Binding → Wildcard → Option (List Piece)
value_of [] w = None
value_of (b ∷ bs) w = if is_same_wildcard b.wildcard w then Some b.value else value_of bs w
