-- Right sides and patterns whose names stand at their places, and the places of names that are declared.
use Rattle.std.specs.Prelude.{ℕ, Bool, true, false, List, Option, Some, None, option_and_then}
use Rattle.std.specs.List.{AllByRecursion}
use Rattle.form_names.specs.declared.kind.Kind.{Kind}
use Rattle.form_names.specs.declared.kind.Kind.TheVariants as kinds
use Rattle.form_names.specs.Names.{Entry, kind_at}
use Rattle.form_term.specs.Named.{Place, symbol_place, vector_place, index_place, function_place, word_place, Places, IsAt, IsIndexNamed, IsPairNamed, IsComponentNamed}
use Rattle.form_tree.specs.declared.tree.Base.{Base}
use Rattle.form_tree.specs.declared.tree.Base.TheVariants as bases
use Rattle.form_tree.specs.declared.tree.Piece.{Piece}
use Rattle.form_tree.specs.declared.tree.Piece.TheVariants as pieces
use Rattle.form_tree.specs.declared.pattern.Name.{Name}
use Rattle.form_tree.specs.declared.pattern.Name.TheVariants.{Itself, Wild}
use Rattle.form_tree.specs.declared.pattern.IndexName.{IndexName}
use Rattle.form_tree.specs.declared.pattern.IndexName.TheVariants as index_names
use Rattle.form_tree.specs.declared.pattern.Sort.{Sort}
use Rattle.form_tree.specs.declared.pattern.Sort.TheVariants as sorts
use Rattle.form_tree.specs.declared.pattern.PatternPiece.{PatternPiece}
use Rattle.form_tree.specs.declared.pattern.PatternPiece.TheVariants as of_pattern
use Rattle.form_tree.specs.Pattern.{Factors, pieces_of_factors}
use Rattle.form_tree.specs.Tree.{Sum, pieces_of_sum}

-- ---- declared names

-- where a name of such a kind stands in a term; an expression and a set stand in none
abbrev pub place_of : Kind → Option Place
place_of kinds.Symbol = Some symbol_place
place_of kinds.Vector = Some vector_place
place_of (kinds.Index d) = Some index_place
place_of kinds.Function = Some word_place
place_of kinds.CommutingFunction = Some function_place
place_of kinds.Expression = None
place_of kinds.Set = None

abbrev pub places_of : List Entry → ℕ → Option Place
places_of names id = option_and_then place_of (kind_at names id)

-- ---- right sides

abbrev pub function_place_of : Bool → Place
function_place_of true = function_place
function_place_of false = word_place

-- what stands below a power that a wildcard stands for
abbrev pub IsBasePlaced : Places → Base → Type 0
IsBasePlaced names (bases.Number value) = Unit {0}
IsBasePlaced names (bases.Symbol id) = IsAt symbol_place names id
IsBasePlaced names (bases.Wild id) = IsAt symbol_place names id
IsBasePlaced names (bases.Dot p q) = IsPairNamed names p q
IsBasePlaced names bases.Imaginary = Unit {0}
IsBasePlaced names (bases.Component c) = IsComponentNamed names c
IsBasePlaced names (bases.Delta i j) = IsIndexNamed names i × IsIndexNamed names j

abbrev pub IsPiecePlaced : Places → Piece → Type 0
IsPiecePlaced names (pieces.Number link value power) = Unit {0}
IsPiecePlaced names (pieces.Symbol link id power) = IsAt symbol_place names id
IsPiecePlaced names (pieces.Wild link id is_over power) = IsAt symbol_place names id
IsPiecePlaced names (pieces.Raised link base by) = IsBasePlaced names base × IsAt symbol_place names by.symbol
IsPiecePlaced names (pieces.Stored link id power) = Unit {0}
IsPiecePlaced names (pieces.Imaginary link power) = Unit {0}
IsPiecePlaced names (pieces.Dot link p q power) = IsPairNamed names p q
IsPiecePlaced names (pieces.Component link c power) = IsComponentNamed names c
IsPiecePlaced names (pieces.Delta link i j power) = IsIndexNamed names i × IsIndexNamed names j
IsPiecePlaced names (pieces.Function link id is_commuting) = IsAt (function_place_of is_commuting) names id
IsPiecePlaced names (pieces.EndOfFunction power) = Unit {0}
IsPiecePlaced names (pieces.EndOfRaisedFunction by) = IsAt symbol_place names by.symbol
IsPiecePlaced names (pieces.Field w) = Unit {0}
IsPiecePlaced names (pieces.Index i) = IsIndexNamed names i
IsPiecePlaced names (pieces.Vector id) = IsAt vector_place names id
IsPiecePlaced names pieces.Argument = Unit {0}
IsPiecePlaced names pieces.EndOfArgument = Unit {0}
IsPiecePlaced names (pieces.Open link) = Unit {0}
IsPiecePlaced names (pieces.Close power) = Unit {0}
IsPiecePlaced names (pieces.CloseRaised by) = IsAt symbol_place names by.symbol

abbrev pub ArePlaced : Places → List Piece → Type 0
ArePlaced names ps = AllByRecursion (IsPiecePlaced names) ps

-- Each name of a right side stands at its place; that of a stored expression has none.
abbrev pub IsSumPlaced : Places → Sum → Type 0
IsSumPlaced names s = ArePlaced names (pieces_of_sum s)

-- ---- patterns

abbrev pub IsNameAt : Place → Places → Name → Type 0
IsNameAt place names (Itself id) = IsAt place names id
IsNameAt place names (Wild id sets) = IsAt place names id

abbrev pub IsIndexNamePlaced : Places → IndexName → Type 0
IsIndexNamePlaced names (index_names.Fixed n) = Unit {0}
IsIndexNamePlaced names (index_names.Name n) = IsNameAt index_place names n

abbrev pub place_of_sort : Sort → Place
place_of_sort sorts.Expression = symbol_place
place_of_sort sorts.Index = index_place
place_of_sort sorts.Vector = vector_place

abbrev pub IsPatternPiecePlaced : Places → PatternPiece → Type 0
IsPatternPiecePlaced names (of_pattern.Symbol n k) = IsNameAt symbol_place names n
IsPatternPiecePlaced names (of_pattern.Whole n m) = IsNameAt symbol_place names n × IsNameAt symbol_place names m
IsPatternPiecePlaced names (of_pattern.Dot p q k) = IsNameAt vector_place names p × IsNameAt vector_place names q
IsPatternPiecePlaced names (of_pattern.Component v i) = IsNameAt vector_place names v × IsIndexNamePlaced names i
IsPatternPiecePlaced names (of_pattern.Delta i j) = IsIndexNamePlaced names i × IsIndexNamePlaced names j
IsPatternPiecePlaced names (of_pattern.Function n) = IsNameAt function_place names n
IsPatternPiecePlaced names (of_pattern.Word count) = Unit {0}
IsPatternPiecePlaced names (of_pattern.Call n) = IsNameAt word_place names n
IsPatternPiecePlaced names of_pattern.EndOfArguments = Unit {0}
IsPatternPiecePlaced names of_pattern.EndOfWord = Unit {0}
IsPatternPiecePlaced names (of_pattern.Fixed k) = Unit {0}
IsPatternPiecePlaced names (of_pattern.Any sort n) = IsNameAt (place_of_sort sort) names n
IsPatternPiecePlaced names (of_pattern.Field w) = Unit {0}
IsPatternPiecePlaced names of_pattern.Product = Unit {0}
IsPatternPiecePlaced names of_pattern.EndOfProduct = Unit {0}

-- Each name of a pattern stands at its place.
abbrev pub IsPatternPlaced : Places → Factors → Type 0
IsPatternPlaced names fs = AllByRecursion (IsPatternPiecePlaced names) (pieces_of_factors fs)
