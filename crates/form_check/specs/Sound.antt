-- What holds of every program that is checked.
use Rattle.std.specs.Prelude.{◌≡◌, ◌⊎◌, ℕ, ◌<◌, ◌≤◌, nat_abs, length, Bool, IsTrue, List, [], ◌∷◌, ◌++◌, All, Some, if◌then◌else◌}
use Rattle.form_names.specs.declared.kind.Kind.{Kind}
use Rattle.form_names.specs.declared.kind.Dimension.{Dimension}
use Rattle.form_names.specs.declared.kind.Kind.TheVariants as kinds
use Rattle.form_names.specs.Names.{Entry, kind_at}
use Rattle.form_term.specs.declared.index.Index.{Index}
use Rattle.form_term.specs.declared.index.Index.TheVariants as indices
use Rattle.form_tree.specs.declared.tree.Piece.{Piece}
use Rattle.form_tree.specs.declared.tree.Piece.TheVariants as pieces
use Rattle.form_tree.specs.declared.tree.Base.{Base}
use Rattle.form_tree.specs.declared.tree.Base.TheVariants as bases
use Rattle.form_tree.specs.declared.pattern.Name.{Name}
use Rattle.form_tree.specs.declared.pattern.Name.TheVariants.{Itself, Wild}
use Rattle.form_tree.specs.declared.pattern.IndexName.{IndexName}
use Rattle.form_tree.specs.declared.pattern.IndexName.TheVariants as index_names
use Rattle.form_tree.specs.declared.pattern.Sort.{Sort}
use Rattle.form_tree.specs.declared.pattern.Sort.TheVariants as sorts
use Rattle.form_tree.specs.declared.pattern.PatternPiece.{PatternPiece}
use Rattle.form_tree.specs.declared.pattern.PatternPiece.TheVariants as of_pattern
use Rattle.form_tree.specs.Pattern.{Factors, pieces_of_factors}
use Rattle.form_tree.specs.Patterns.{Pieces}
use Rattle.form_tree.specs.Tree.{Sum, Argument, pieces_of_sum, pieces_of_argument}
use Rattle.form_check.specs.declared.checked.Checked.{Checked}
use Rattle.form_check.specs.declared.checked.Checked.TheVariants.{Drop, Skip, Local, Print}
use Rattle.form_check.specs.declared.checked.CheckedLeaf.{CheckedLeaf}
use Rattle.form_check.specs.declared.checked.CheckedLeaf.TheVariants as leaves
use Rattle.form_check.specs.declared.checked.Picked.{Picked}
use Rattle.form_tree.specs.declared.condition.Counted.{Counted}
use Rattle.form_tree.specs.declared.condition.Counted.TheVariants as counts
use Rattle.form_tree.specs.declared.condition.Value.{Value}
use Rattle.form_tree.specs.declared.condition.Value.TheVariants as values
use Rattle.form_base.specs.Condition.{values_of}
use Rattle.form_base.specs.Statements.{choices_of, conditions_of, leaves_of}
use Rattle.form_tree.specs.Conditions.{Parts}
use Rattle.form_check.specs.declared.checked.Rewriting.{Rewriting}
use Rattle.form_check.specs.declared.checked.Selection.{Selection}
use Rattle.form_check.specs.declared.checked.Selection.TheVariants as selections
use Rattle.form_check.specs.Program.{CheckedStatement, Module, Program}
use Rattle.form_right_side.specs.RightSide.{largest_number, largest_exponent, largest_power, largest_index, none_stands}
use Rattle.form_check.specs.Standing.{stands}

-- the Id is one of the names, of this kind
abbrev pub IsOfKind : Kind → List Entry → ℕ → Type 0
IsOfKind kind names id = kind_at names id ≡ Some kind

-- a fixed index up to the largest, or a declared one
abbrev pub IsIndexSound : List Entry → Index → Type 0
IsIndexSound names (indices.Fixed n) = n ≤ largest_index
IsIndexSound names (indices.Declared id) = (d : Dimension) × IsOfKind (kinds.Index d) names id
IsIndexSound names (indices.Dummy n) = ⊥

-- what stands below a power that a wildcard stands for
abbrev pub IsBaseSound : List Entry → Base → Type 0
IsBaseSound names (bases.Number value) = value ≤ largest_number
IsBaseSound names (bases.Symbol id) = IsOfKind kinds.Symbol names id
IsBaseSound names (bases.Wild id) = IsOfKind kinds.Symbol names id
IsBaseSound names (bases.Dot left right) = IsOfKind kinds.Vector names left × IsOfKind kinds.Vector names right
IsBaseSound names bases.Imaginary = Unit {0}
IsBaseSound names (bases.Component c) = IsOfKind kinds.Vector names c.vector × IsIndexSound names c.index
IsBaseSound names (bases.Delta i j) = IsIndexSound names i × IsIndexSound names j

-- numbers are in their limits, and names of their kind; an expression stands
abbrev pub IsPieceSound : List Entry → (ℕ → Bool) → Piece → Type 0
IsPieceSound names stands (pieces.Number link value power) = (value ≤ largest_number) × (nat_abs power ≤ largest_power)
IsPieceSound names stands (pieces.Symbol link id power) =
    IsOfKind kinds.Symbol names id × (nat_abs power ≤ largest_exponent)
IsPieceSound names stands (pieces.Wild link id is_over power) =
    IsOfKind kinds.Symbol names id × (nat_abs power ≤ largest_exponent)
IsPieceSound names stands (pieces.Raised link base by) = IsBaseSound names base × IsOfKind kinds.Symbol names by.symbol
IsPieceSound names stands (pieces.Stored link id power) =
    IsOfKind kinds.Expression names id × IsTrue (stands id) × (power ≤ largest_power)
IsPieceSound names stands (pieces.Imaginary link power) = power ≤ largest_power
IsPieceSound names stands (pieces.Dot link left right power) =
    IsOfKind kinds.Vector names left × IsOfKind kinds.Vector names right × (nat_abs power ≤ largest_exponent)
IsPieceSound names stands (pieces.Component link c power) =
    IsOfKind kinds.Vector names c.vector × IsIndexSound names c.index × (power ≤ largest_power)
IsPieceSound names stands (pieces.Delta link i j power) = IsIndexSound names i × IsIndexSound names j × (power ≤ largest_power)
IsPieceSound names stands (pieces.Function link id is_commuting) =
    IsOfKind (if is_commuting then kinds.CommutingFunction else kinds.Function) names id
IsPieceSound names stands (pieces.EndOfFunction power) = power ≤ largest_power
IsPieceSound names stands (pieces.EndOfRaisedFunction by) = IsOfKind kinds.Symbol names by.symbol
IsPieceSound names stands (pieces.Field w) = Unit {0}
IsPieceSound names stands (pieces.Index i) = IsIndexSound names i
IsPieceSound names stands (pieces.Vector id) = IsOfKind kinds.Vector names id
IsPieceSound names stands pieces.Argument = Unit {0}
IsPieceSound names stands pieces.EndOfArgument = Unit {0}
IsPieceSound names stands (pieces.Open link) = Unit {0}
IsPieceSound names stands (pieces.Close power) = power ≤ largest_power
IsPieceSound names stands (pieces.CloseRaised by) = IsOfKind kinds.Symbol names by.symbol

-- a right side: its pieces are those of a tree
pub record IsRightSideSound (names : List Entry) (stands : ℕ → Bool) (list : List Piece) : Type 0 where
  pub tree : Sum
  pub pieces : list ≡ pieces_of_sum tree
  pub each : All (IsPieceSound names stands) list

-- a name of a pattern, of this kind
abbrev pub IsNameSound : Kind → List Entry → Name → Type 0
IsNameSound kind names (Itself id) = IsOfKind kind names id
IsNameSound kind names (Wild id sets) = IsOfKind kind names id

-- an index in a pattern
abbrev pub IsIndexNameSound : List Entry → IndexName → Type 0
IsIndexNameSound names (index_names.Fixed n) = n ≤ largest_index
IsIndexNameSound names (index_names.Name n) = (d : Dimension) × IsNameSound (kinds.Index d) names n

-- a wildcard that is an argument
abbrev pub IsAnySound : List Entry → Sort → Name → Type 0
IsAnySound names sorts.Expression n = IsNameSound kinds.Symbol names n
IsAnySound names sorts.Index n = (d : Dimension) × IsNameSound (kinds.Index d) names n
IsAnySound names sorts.Vector n = IsNameSound kinds.Vector names n

-- names in a pattern are of their kinds
abbrev pub IsPatternPieceSound : List Entry → PatternPiece → Type 0
IsPatternPieceSound names (of_pattern.Symbol n k) = IsNameSound kinds.Symbol names n
IsPatternPieceSound names (of_pattern.Whole n m) = IsNameSound kinds.Symbol names n × IsNameSound kinds.Symbol names m
IsPatternPieceSound names (of_pattern.Dot p q k) = IsNameSound kinds.Vector names p × IsNameSound kinds.Vector names q
IsPatternPieceSound names (of_pattern.Component v i) = IsNameSound kinds.Vector names v × IsIndexNameSound names i
IsPatternPieceSound names (of_pattern.Delta i j) = IsIndexNameSound names i × IsIndexNameSound names j
IsPatternPieceSound names (of_pattern.Function n) = IsNameSound kinds.CommutingFunction names n
IsPatternPieceSound names (of_pattern.Word count) = Unit {0}
IsPatternPieceSound names (of_pattern.Call n) = IsNameSound kinds.Function names n
IsPatternPieceSound names of_pattern.EndOfArguments = Unit {0}
IsPatternPieceSound names of_pattern.EndOfWord = Unit {0}
IsPatternPieceSound names (of_pattern.Fixed k) = Unit {0}
IsPatternPieceSound names (of_pattern.Any sort n) = IsAnySound names sort n
IsPatternPieceSound names (of_pattern.Field w) = Unit {0}
IsPatternPieceSound names of_pattern.Product = Unit {0}
IsPatternPieceSound names of_pattern.EndOfProduct = Unit {0}

-- an argument of a pattern without wildcards: its pieces are those of a tree
pub record IsFixedSound (names : List Entry) (list : List Piece) : Type 0 where
  pub tree : Argument
  pub pieces : list ≡ pieces_of_argument tree
  pub each : All (IsPieceSound names none_stands) list

-- a pattern: its pieces are those of factors
pub record IsPatternSound (names : List Entry) (p : Pieces) : Type 0 where
  pub tree : Factors
  pub pieces : p.pieces ≡ pieces_of_factors tree
  pub each : All (IsPatternPieceSound names) p.pieces
  pub fixed : All (IsFixedSound names) p.fixed

-- an `id` or an `also`, in whose right side no expression is named
pub record IsRewritingSound (names : List Entry) (r : Rewriting) : Type 0 where
  pub pattern : IsPatternSound names r.pattern
  pub right : IsRightSideSound names none_stands r.right

abbrev pub IsSelectionSound : List Entry → Selection → Type 0
IsSelectionSound names selections.All = Unit {0}
IsSelectionSound names (selections.Named ids) = All (IsOfKind kinds.Expression names) ids

-- an index
abbrev pub IsIndexNamed : List Entry → ℕ → Type 0
IsIndexNamed names id = (d : Dimension) × IsOfKind (kinds.Index d) names id

-- a function, commuting or not, and numbers of arguments from 1
abbrev pub IsFunctionNamed : List Entry → ℕ → Type 0
IsFunctionNamed names id = IsOfKind kinds.Function names id ⊎ IsOfKind kinds.CommutingFunction names id

pub record IsPickedSound (names : List Entry) (p : Picked) : Type 0 where
  pub function : IsFunctionNamed names p.function
  pub numbers : All (λ n. 1 ≤ n) p.numbers

-- what is counted is of its kind
abbrev pub IsCountedSound : List Entry → Counted → Type 0
IsCountedSound names (counts.Symbol id) = IsOfKind kinds.Symbol names id
IsCountedSound names (counts.Vector id) = IsOfKind kinds.Vector names id
IsCountedSound names (counts.Function id) = IsFunctionNamed names id

-- a value of a condition with so many patterns
abbrev pub IsValueSound : List Entry → ℕ → Value → Type 0
IsValueSound names count (values.Count ws) = All (λ w. IsCountedSound names w.counted) ws
IsValueSound names count (values.Match k) = k < count
IsValueSound names count v = Unit {0}

-- a condition
pub record IsConditionSound (names : List Entry) (c : Parts) : Type 0 where
  pub values : All (IsValueSound names (length c.patterns)) (values_of c.alternatives)
  pub patterns : All (IsPatternSound names) c.patterns

-- a statement that stands in no block, of a module at whose start these expressions stand
abbrev pub IsStatementSound : List Entry → (ℕ → Bool) → Checked → Type 0
IsStatementSound names stands (Drop which) = IsSelectionSound names which
IsStatementSound names stands (Skip which) = IsSelectionSound names which
IsStatementSound names stands (Local id right) =
    IsOfKind kinds.Expression names id × IsRightSideSound names stands right
IsStatementSound names stands (Print which) = IsSelectionSound names which

-- one that is carried out on terms, and is no block
abbrev pub IsLeafSound : List Entry → CheckedLeaf → Type 0
IsLeafSound names (leaves.Rewrite rs) = All (IsRewritingSound names) rs
IsLeafSound names (leaves.Multiply side right) = IsRightSideSound names none_stands right
IsLeafSound names (leaves.Sum ids) = All (IsIndexNamed names) ids
IsLeafSound names (leaves.SumOver id values) = IsIndexNamed names id × All (λ n. n ≤ largest_index) values
IsLeafSound names leaves.Discard = Unit {0}

-- the functions of an `argument`
abbrev pub AreAllPickedSound : List Entry → List Picked → Type 0
AreAllPickedSound names functions = All (IsPickedSound names) functions

-- one that is carried out on terms, with all that stands in its blocks
pub record IsActionSound (names : List Entry) (a : CheckedStatement) : Type 0 where
  pub leaves : All (IsLeafSound names) (leaves_of a)
  pub conditions : All (IsConditionSound names) (conditions_of a)
  pub choices : All (AreAllPickedSound names) (choices_of a)

-- a module behind others
pub record IsModuleSound (names : List Entry) (earlier : List Module) (m : Module) : Type 0 where
  pub statements : All (IsStatementSound names (stands earlier)) m.statements
  pub actions : All (IsActionSound names) m.actions

-- the modules that come after others
abbrev pub AreModulesSound : List Entry → List Module → List Module → Type 0
AreModulesSound names earlier [] = Unit {0}
AreModulesSound names earlier (m ∷ later) = IsModuleSound names earlier m × AreModulesSound names (earlier ++ m ∷ []) later

abbrev pub IsSound : Program → Type 0
IsSound program = AreModulesSound program.names [] program.modules
