-- The statements that terminals are.
use Rattle.std.specs.Prelude.{◌≡◌, ◌⊎◌, ℕ, List, [], ◌∷◌, ◌++◌, map, flat_map, codes, Bool, true, false, IsTrue, Option, Some, None, option_map, if◌then◌else◌}
use Rattle.form_ast.specs.declared.expr.Spelled.{Spelled}
use Rattle.form_ast.specs.declared.expr.Piece.{Piece}
use Rattle.form_ast.specs.declared.expr.Sign.{Sign}
use Rattle.form_ast.specs.declared.expr.SignedNumber.{SignedNumber}
use Rattle.form_ast.specs.declared.index_list.Dimension.{Dimension}
use Rattle.form_ast.specs.declared.index_list.Dimension.TheVariants as dimension
use Rattle.form_ast.specs.declared.index_list.SpelledIndex.{SpelledIndex}
use Rattle.form_ast.specs.declared.statement.Placed.{Placed}
use Rattle.form_ast.specs.declared.statement.Statement.{Statement}
use Rattle.form_base.specs.declared.spot.Spot.{Spot}
use Rattle.form_ast.specs.declared.statement.Statement.TheVariants as statements
use Rattle.form_ast.specs.declared.statement.WrittenElements.{WrittenElements}
use Rattle.form_ast.specs.declared.statement.WrittenElements.TheVariants as written_as
use Rattle.form_ast.specs.Conditions.{Condition}
use Rattle.form_ast.specs.declared.picked.Picked.{Picked}
use Rattle.form_ast.specs.declared.statement.Side.{Side}
use Rattle.form_ast.specs.declared.statement.Side.TheVariants.{Left, Right}
use Rattle.form_number.specs.declared.number.Number as numbers
use Rattle.form_grammar.specs.Grammar.{IsExpr, IsPatternText, IsRightText, written_elements}
use Rattle.form_conditions.specs.Grammar.{IsConditionText, IsConditionBefore}
use Rattle.form_blocks.specs.Blocks.{Read}
use Rattle.form_grammar.specs.declared.terminal.Terminal.{Terminal}
use Rattle.form_grammar.specs.declared.terminal.Terminal.TheVariants.{Number, Name, Comma, Equals, Colon}
use Rattle.form_stmts.specs.declared.keyword.Keyword.{Keyword}
use Rattle.form_stmts.specs.declared.keyword.Keyword.TheVariants.{Names, Indices, Switch, Set, Drop, Skip, Local, Id, Also, Multiply, Discard, EndRepeat, ElseIf, Else, EndIf, EndArgument, Print}
use Rattle.form_stmts.specs.declared.keyword.Keyword.TheVariants as keyword
use Rattle.form_stmts.specs.Keyword.{is_one_of, keyword_of}
use Rattle.form_stmts.specs.Rewriting.{behind_comma, is_comma, option_of, pattern_of, sides}

-- a further name, behind a comma or none
pub record Further : Type 0 where
  pub has_comma : Bool
  pub name : Spelled

abbrev pub written_further : Further → List Terminal
written_further f = if f.has_comma then Comma ∷ Name f.name ∷ [] else Name f.name ∷ []

-- name { [","] name }
pub record AreNames (terminals : List Terminal) (names : List Spelled) : Type 0 where
  pub first : Spelled
  pub others : List Further
  pub written : terminals ≡ Name first ∷ flat_map written_further others
  pub kept : names ≡ first ∷ map (λ f. f.name) others

-- [ name { [","] name } ]
abbrev pub AreNamesOrNone : List Terminal → List Spelled → Type 0
AreNamesOrNone terminals names = ((terminals ≡ []) × (names ≡ [])) ⊎ AreNames terminals names

-- number | name
abbrev pub written_dimension : Dimension → Terminal
written_dimension (dimension.Number n) = Number n
written_dimension (dimension.Name name) = Name name

abbrev pub written_dimension_of : Option Dimension → List Terminal
written_dimension_of None = []
written_dimension_of (Some d) = Equals ∷ written_dimension d ∷ []

-- name [ "=" dimension ]
abbrev pub written_index : SpelledIndex → List Terminal
written_index index = Name index.name ∷ written_dimension_of index.dimension

-- a further index, behind a comma or none
pub record FurtherIndex : Type 0 where
  pub has_comma : Bool
  pub index : SpelledIndex

abbrev pub written_further_index : FurtherIndex → List Terminal
written_further_index f = if f.has_comma then Comma ∷ written_index f.index else written_index f.index

-- index { [","] index }
pub record AreIndices (terminals : List Terminal) (indices : List SpelledIndex) : Type 0 where
  pub first : SpelledIndex
  pub others : List FurtherIndex
  pub written : terminals ≡ written_index first ++ flat_map written_further_index others
  pub kept : indices ≡ first ∷ map (λ f. f.index) others

abbrev pub IsDimension : List Terminal → Dimension → Type 0
IsDimension terminals d = terminals ≡ written_dimension d ∷ []

-- `statistics`, in any case of letters
pub record IsSwitch (terminals : List Terminal) (statement : Statement) : Type 0 where
  pub word : Spelled
  pub written : terminals ≡ Name word ∷ []
  pub spelled : IsTrue (is_one_of word.name (codes "statistics" ∷ []))
  pub kept : statement ≡ statements.Statistics

-- name "=" expr
pub record IsDefinition (terminals : List Terminal) (statement : Statement) : Type 0 where
  pub name : Spelled
  pub rest : List Terminal
  pub pieces : List Piece
  pub written : terminals ≡ Name name ∷ Equals ∷ rest
  pub right_side : IsExpr rest pieces
  pub kept : statement ≡ statements.Local name pieces

-- names or signed whole numbers, parted by commas, at least one
abbrev pub HasElements : WrittenElements → Type 0
HasElements (written_as.Names []) = ⊥
HasElements (written_as.Numbers []) = ⊥
HasElements _ = Unit {0}

abbrev pub AreElements : List Terminal → WrittenElements → Type 0
AreElements terminals elements = (terminals ≡ written_elements elements) × HasElements elements

-- name ":" elements
pub record IsSet (terminals : List Terminal) (statement : Statement) : Type 0 where
  pub name : Spelled
  pub rest : List Terminal
  pub elements : WrittenElements
  pub written : terminals ≡ Name name ∷ Colon ∷ rest
  pub are_elements : AreElements rest elements
  pub kept : statement ≡ statements.Set name elements

-- [","] [ option [","] ] pattern "=" right side
pub record IsRewrite (is_also : Bool) (terminals : List Terminal) (statement : Statement) : Type 0 where
  pub left : List Terminal
  pub right : List Terminal
  pub pattern_pieces : List Piece
  pub right_pieces : List Piece
  pub written : sides terminals ≡ Some (left, right)
  pub is_pattern : IsPatternText (pattern_of left) pattern_pieces
  pub is_right : IsRightText pattern_pieces right right_pieces
  pub kept : statement ≡ statements.Rewrite (record { is_also = is_also; option = option_of left; pattern = pattern_pieces; right = right_pieces })

-- "left" "," or "right" ",", in any case of letters
abbrev pub side_word : List ℕ → Option Side
side_word name = if is_one_of name (codes "left" ∷ []) then Some Left else if is_one_of name (codes "right" ∷ []) then Some Right else None

abbrev pub word_side : Terminal → Option Side
word_side (Name n) = side_word n.name
word_side _ = None

abbrev pub side_at : List Terminal → Option Side
side_at (word ∷ next ∷ rest) = if is_comma next then word_side word else None
side_at _ = None

abbrev pub or_right : Option Side → Side
or_right None = Right
or_right (Some side) = side

abbrev pub behind_side : Option Side → List Terminal → List Terminal
behind_side None terminals = terminals
behind_side (Some side) [] = []
behind_side (Some side) (word ∷ rest) = behind_comma rest

-- [ ( "left" | "right" ) "," ] expr
pub record IsMultiply (terminals : List Terminal) (statement : Statement) : Type 0 where
  pub pieces : List Piece
  pub right_side : IsExpr (behind_side (side_at terminals) terminals) pieces
  pub kept : statement ≡ statements.Multiply (or_right (side_at terminals)) pieces

-- whole numbers, where none has a sign
abbrev pub numbers_from : List numbers.Number → List SignedNumber → Option (List numbers.Number)
numbers_from ns [] = Some ns
numbers_from ns (x ∷ xs) = by_sign x.sign (numbers_from (ns ++ x.number ∷ []) xs) where
  by_sign : Option Sign → Option (List numbers.Number) → Option (List numbers.Number)
  by_sign None more = more
  by_sign (Some sign) more = None

-- a `sum` of this index and others, or of this one over numbers
abbrev pub sum_of : Spelled → WrittenElements → Option Statement
sum_of name (written_as.Names names) = Some (statements.Sum (name ∷ names))
sum_of name (written_as.Numbers ns) = option_map (λ wholes. statements.SumOver name wholes) (numbers_from [] ns)

abbrev pub AreSummed : Spelled → List Terminal → Statement → Type 0
AreSummed name terminals s = (elements : WrittenElements) × AreElements terminals elements × (sum_of name elements ≡ Some s)

abbrev pub IsSumBehind : Spelled → List Terminal → Statement → Type 0
IsSumBehind name [] s = s ≡ statements.Sum (name ∷ [])
IsSumBehind name (Comma ∷ rest) s = AreSummed name rest s
IsSumBehind name _ s = ⊥

-- name { "," name }, or name "," number { "," number }
pub record IsSum (terminals : List Terminal) (statement : Statement) : Type 0 where
  pub name : Spelled
  pub rest : List Terminal
  pub written : terminals ≡ Name name ∷ rest
  pub behind : IsSumBehind name rest statement

-- a function with the numbers of arguments, each behind a comma or none
pub record FurtherNumber : Type 0 where
  pub has_comma : Bool
  pub number : numbers.Number

abbrev pub written_further_number : FurtherNumber → List Terminal
written_further_number f = if f.has_comma then Comma ∷ Number f.number ∷ [] else Number f.number ∷ []

pub record Pick : Type 0 where
  pub function : Spelled
  pub numbers : List FurtherNumber

abbrev pub written_pick : Pick → List Terminal
written_pick p = Name p.function ∷ flat_map written_further_number p.numbers

abbrev pub picked_of : Pick → Picked
picked_of p = record { function = p.function; numbers = map (λ n. n.number) p.numbers }

-- a further one, behind a comma or none
pub record FurtherPick : Type 0 where
  pub has_comma : Bool
  pub pick : Pick

abbrev pub written_further_pick : FurtherPick → List Terminal
written_further_pick f = if f.has_comma then Comma ∷ written_pick f.pick else written_pick f.pick

-- pick { [","] pick }
pub record HasPicked (terminals : List Terminal) (picked : List Picked) : Type 0 where
  pub first : Pick
  pub others : List FurtherPick
  pub written : terminals ≡ written_pick first ++ flat_map written_further_pick others
  pub kept : picked ≡ picked_of first ∷ map (λ f. picked_of f.pick) others

abbrev pub ArePicked : List Terminal → List Picked → Type 0
ArePicked terminals picked = ((terminals ≡ []) × (picked ≡ [])) ⊎ HasPicked terminals picked

-- a keyword alone
abbrev pub IsAlone : Statement → List Terminal → Statement → Type 0
IsAlone s terminals statement = (terminals ≡ []) × (statement ≡ s)

-- what follows the keyword
abbrev pub FollowsKeyword : Keyword → List Terminal → Statement → Type 0
FollowsKeyword (Names declared) terminals statement = (names : List Spelled) × AreNames terminals names × (statement ≡ statements.Names declared names)
FollowsKeyword Indices terminals statement = (indices : List SpelledIndex) × AreIndices terminals indices × (statement ≡ statements.Indices indices)
FollowsKeyword keyword.Dimension terminals statement = (d : Dimension) × IsDimension terminals d × (statement ≡ statements.Dimension d)
FollowsKeyword Switch terminals statement = IsSwitch terminals statement
FollowsKeyword Set terminals statement = IsSet terminals statement
FollowsKeyword Drop terminals statement = (names : List Spelled) × AreNamesOrNone terminals names × (statement ≡ statements.Drop names)
FollowsKeyword Skip terminals statement = (names : List Spelled) × AreNamesOrNone terminals names × (statement ≡ statements.Skip names)
FollowsKeyword Local terminals statement = IsDefinition terminals statement
FollowsKeyword Id terminals statement = IsRewrite false terminals statement
FollowsKeyword Also terminals statement = IsRewrite true terminals statement
FollowsKeyword Multiply terminals statement = IsMultiply terminals statement
FollowsKeyword keyword.Sum terminals statement = IsSum terminals statement
FollowsKeyword Discard terminals statement = IsAlone statements.Discard terminals statement
FollowsKeyword EndRepeat terminals statement = IsAlone statements.EndRepeat terminals statement
FollowsKeyword ElseIf terminals statement = (c : Condition) × IsConditionText terminals c × (statement ≡ statements.ElseIf c)
FollowsKeyword Else terminals statement = IsAlone statements.Else terminals statement
FollowsKeyword EndIf terminals statement = IsAlone statements.EndIf terminals statement
FollowsKeyword EndArgument terminals statement = IsAlone statements.EndArgument terminals statement
FollowsKeyword keyword.Repeat terminals statement = IsAlone statements.Repeat terminals statement
FollowsKeyword keyword.If terminals statement = (c : Condition) × IsConditionText terminals c × (statement ≡ statements.If c)
FollowsKeyword keyword.Argument terminals statement = (picked : List Picked) × ArePicked terminals picked × (statement ≡ statements.Argument picked)
FollowsKeyword Print terminals statement = (names : List Spelled) × AreNamesOrNone terminals names × (statement ≡ statements.Print names)

-- The terminals are this statement: a keyword, and what follows it.
pub record IsStatement (terminals : List Terminal) (statement : Statement) : Type 0 where
  pub first : Spelled
  pub rest : List Terminal
  pub keyword : Keyword
  pub written : terminals ≡ Name first ∷ rest
  pub spelled : keyword_of first.name ≡ Some keyword
  pub follows : FollowsKeyword keyword rest statement

-- ---- lines of others

-- what stands behind the keyword of a statement that ends with what is behind it, which is the rest
abbrev pub BehindLine : Option Keyword → Statement → List Terminal → List Terminal → Type 0
BehindLine (Some keyword.Repeat) s terminals rest = (s ≡ statements.Repeat) × (terminals ≡ rest)
BehindLine (Some keyword.If) s terminals rest = (c : Condition) × IsConditionBefore rest terminals c × (s ≡ statements.If c)
BehindLine _ s terminals rest = ⊥

-- "repeat", or "if" with its condition, and the rest
pub record IsLine (line : Placed) (terminals rest : List Terminal) : Type 0 where
  pub first : Spelled
  pub behind : List Terminal
  pub written : terminals ≡ Name first ∷ behind
  pub spot : line.spot ≡ first.spot
  pub behind_it : BehindLine (keyword_of first.name) line.statement behind rest

-- where terminals begin
abbrev pub BeginsAt : Spot → List Terminal → Type 0
BeginsAt spot (Name n ∷ rest) = spot ≡ n.spot
BeginsAt spot _ = ⊥

-- The terminals are these lines, and behind them this statement.
abbrev pub AreRead : List Placed → Placed → List Terminal → Type 0
AreRead [] last terminals = IsStatement terminals last.statement × BeginsAt last.spot terminals
AreRead (line ∷ lines) last terminals = (rest : List Terminal) × IsLine line terminals rest × AreRead lines last rest

-- the terminals are a statement that is read so
abbrev pub ReadsSo : List Terminal → Read → Type 0
ReadsSo terminals r = AreRead r.lines r.last terminals

-- A statement, with nothing behind it; or a line of others, with what is behind it.
abbrev pub IsFront : Placed → List Terminal → List Terminal → Type 0
IsFront p terminals [] = IsStatement terminals p.statement × BeginsAt p.spot terminals
IsFront p terminals (t ∷ ts) = IsLine p terminals (t ∷ ts)

-- a statement or a line, by what stands behind its keyword
abbrev pub IsFrontBehind : Keyword → Statement → List Terminal → List Terminal → Type 0
IsFrontBehind keyword s behind [] = FollowsKeyword keyword behind s
IsFrontBehind keyword s behind (t ∷ ts) = BehindLine (Some keyword) s behind (t ∷ ts)

-- such a one stands behind the keyword, whatever is behind it
abbrev pub StandsBehind : Keyword → List Terminal → Statement → Type 0
StandsBehind keyword behind s = (rest : List Terminal) × IsFrontBehind keyword s behind rest
