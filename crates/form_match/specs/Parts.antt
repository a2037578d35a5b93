-- Arguments by their pieces: the first of them, and what it asks and begins with.
use Rattle.std.specs.Prelude.{◌≡◌, ◌≢◌, ℕ, suc, ◌<◌, ◌≤◌, Bool, true, false, List, [], ◌∷◌, ◌++◌, Option, Some, None, option_map, length, map, take}
use Rattle.form_term.specs.declared.index.Index.{Index}
use Rattle.form_term.specs.declared.piece.Piece.{Piece}
use Rattle.form_term.specs.declared.piece.Piece.TheVariants as argument_pieces
use Rattle.form_term.specs.Term as terms
use Rattle.form_term.specs.Term.{Argument, AreArguments, Call, pieces_of_argument, pieces_of_arguments}
use Rattle.form_term.specs.Arguments.{arguments_of}
use Rattle.form_tree.specs.declared.pattern.IndexName.TheVariants as an_index
use Rattle.form_tree.specs.declared.pattern.Name.{Name}
use Rattle.form_tree.specs.declared.pattern.PatternPiece.{PatternPiece}
use Rattle.form_tree.specs.declared.pattern.PatternPiece.TheVariants as pieces
use Rattle.form_tree.specs.declared.pattern.Sort.{Sort}
use Rattle.form_tree.specs.declared.pattern.Sort.TheVariants as sorts
use Rattle.form_match.specs.Matching.{asked_expression, asked_index, asked_vector}
use Rattle.form_bindings.specs.Values.{Binding}

-- what arguments without wildcards are, by what is kept of them
abbrev pub table_of : List (Option Call) → List (Option (List Piece))
table_of fixed = map (option_map (λ c. c.pieces)) fixed

-- what a wildcard for an argument asks
abbrev pub any_asked : Sort → Name → terms.Argument → Option (List Binding)
any_asked sorts.Expression n (terms.expression ss) = asked_expression n (pieces_of_argument (terms.expression ss))
any_asked sorts.Index n (terms.index i) = asked_index (an_index.Name n) i
any_asked sorts.Vector n (terms.vector v) = asked_vector n v
any_asked sort n a = None

-- what pieces of an argument begin with
abbrev pub begins_sum : List Piece → Bool
begins_sum (argument_pieces.Sum ∷ ps) = true
begins_sum _ = false

abbrev pub index_alone : List Piece → Option Index
index_alone (argument_pieces.Index i ∷ ps) = Some i
index_alone _ = None

abbrev pub vector_alone : List Piece → Option ℕ
vector_alone (argument_pieces.Vector v ∷ ps) = Some v
vector_alone _ = None

-- pieces in two: those of a first argument, and those of the arguments behind it
pub record HasFirst (ps front behind : List Piece) : Type 0 where
  pub first : Argument
  pub args : List Argument
  pub read : arguments_of ps ≡ first ∷ args
  pub parts : ps ≡ front ++ behind
  pub some : 0 < length front
  pub front_is : front ≡ pieces_of_argument first
  pub behind_is : arguments_of behind ≡ args
  pub front_lawful : AreArguments front
  pub behind_lawful : AreArguments behind

-- such parts, none where there are no pieces
abbrev pub IsFirstOf : List Piece → Option (List Piece × List Piece) → Type 0
IsFirstOf ps None = ps ≡ []
IsFirstOf ps (Some parts) = HasFirst ps parts.0 parts.1

-- The first so many arguments have so many pieces.
pub record IsFront (ps : List Piece) (count n : ℕ) : Type 0 where
  pub within : count ≤ length (arguments_of ps)
  pub size : n ≡ length (pieces_of_arguments (take count (arguments_of ps)))

-- the first of these arguments are those of a value, which has so many pieces; or they aren't
abbrev pub BeginsWith : List Piece → List Piece → ℕ → Type 0
BeginsWith ps value n = (value ≡ take n ps) × ((count : ℕ) × IsFront ps count n)

abbrev pub BeginsOtherwise : List Piece → List Piece → Type 0
BeginsOtherwise ps value = (count : ℕ) → count ≤ length (arguments_of ps) → value ≢ pieces_of_arguments (take count (arguments_of ps))

-- how many arguments these pieces take up to the end of the arguments, where each takes one
abbrev pub single_count : List PatternPiece → Option ℕ
single_count (pieces.Fixed k ∷ ps) = option_map suc (single_count ps)
single_count (pieces.Any sort n ∷ ps) = option_map suc (single_count ps)
single_count (pieces.EndOfArguments ∷ ps) = Some 0
single_count _ = None

-- the only one of these, none where there is another number of them
abbrev pub IsOnly : {A : Type 0} → Option A → List A → Type 0
IsOnly (Some x) xs = xs ≡ x ∷ []
IsOnly None xs = length xs ≢ 1
