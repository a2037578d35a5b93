-- Patterns over Ids as trees, and the pieces that such a tree is kept as.
use Rattle.std.specs.Prelude.{ℕ, suc, ℤ, List, [], ◌∷◌, ◌++◌}
use Rattle.form_tree.specs.declared.pattern.Name.{Name}
use Rattle.form_tree.specs.declared.pattern.IndexName.{IndexName}
use Rattle.form_tree.specs.declared.pattern.Sort.{Sort}
use Rattle.form_tree.specs.declared.pattern.PatternPiece.{PatternPiece}
use Rattle.form_tree.specs.declared.pattern.PatternPiece.TheVariants as pieces

mutual
  -- factors in a row, in the order in which they are tried
  pub data Factors : Type 0 where
    none : Factors
    more : Factor → Factors → Factors

  -- A power of a symbol; a symbol with its whole exponent, for which a wildcard stands; a power of a dot product; a
  -- component; a delta; a commuting function; non-commuting functions in a row.
  pub data Factor : Type 0 where
    symbol : Name → (power : ℤ) → Factor
    whole : Name → (exponent : Name) → Factor
    dot : (p q : Name) → (power : ℤ) → Factor
    component : (vector : Name) → IndexName → Factor
    delta : (i j : IndexName) → Factor
    function : Name → Arguments → Factor
    word : Calls → Factor

  -- functions in a row
  pub data Calls : Type 0 where
    end : Calls
    call : Name → Arguments → Calls → Calls

  -- arguments in a row
  pub data Arguments : Type 0 where
    empty : Arguments
    further : Argument → Arguments → Arguments

  -- An argument without wildcards, by its number among those of the pattern; a wildcard for an expression, an index or a
  -- vector; a field of arguments; a product with wildcards.
  pub data Argument : Type 0 where
    fixed : ℕ → Argument
    any : Sort → Name → Argument
    field : ℕ → Argument
    product : Factors → Argument

-- how many functions these are
abbrev pub count : Calls → ℕ
count end = 0
count (call n args calls) = suc (count calls)

-- the pieces of a tree, in trial order
abbrev mutual
  pub pieces_of_factors : Factors → List PatternPiece
  pieces_of_factors none = []
  pieces_of_factors (more f fs) = pieces_of_factor f ++ pieces_of_factors fs

  pub pieces_of_factor : Factor → List PatternPiece
  pieces_of_factor (symbol n k) = pieces.Symbol n k ∷ []
  pieces_of_factor (whole n m) = pieces.Whole n m ∷ []
  pieces_of_factor (dot p q k) = pieces.Dot p q k ∷ []
  pieces_of_factor (component v i) = pieces.Component v i ∷ []
  pieces_of_factor (delta i j) = pieces.Delta i j ∷ []
  pieces_of_factor (function n args) = pieces.Function n ∷ pieces_of_arguments args ++ pieces.EndOfArguments ∷ []
  pieces_of_factor (word calls) = pieces.Word (count calls) ∷ pieces_of_calls calls ++ pieces.EndOfWord ∷ []

  pub pieces_of_calls : Calls → List PatternPiece
  pieces_of_calls end = []
  pieces_of_calls (call n args calls) = pieces.Call n ∷ pieces_of_arguments args ++ pieces.EndOfArguments ∷ pieces_of_calls calls

  pub pieces_of_arguments : Arguments → List PatternPiece
  pieces_of_arguments empty = []
  pieces_of_arguments (further a args) = pieces_of_argument a ++ pieces_of_arguments args

  pub pieces_of_argument : Argument → List PatternPiece
  pieces_of_argument (fixed k) = pieces.Fixed k ∷ []
  pieces_of_argument (any sort n) = pieces.Any sort n ∷ []
  pieces_of_argument (field w) = pieces.Field w ∷ []
  pieces_of_argument (product fs) = pieces.Product ∷ pieces_of_factors fs ++ pieces.EndOfProduct ∷ []
