-- What a right side or a pattern may not have although its tokens are in order.
use Rattle.std.specs.Prelude.{◌≡◌, ◌≢◌, ◌⊎◌, ℕ, zero, suc, ◌+◌, ◌-◌, ◌<◌, ◌≤◌, List, [], length, true, IsTrue, Option, Some, None, All}
use Rattle.form_ast.specs.declared.expr.Sign.{Sign}
use Rattle.form_ast.specs.declared.expr.Sign.TheVariants.{Minus}
use Rattle.form_ast.specs.declared.expr.Power.{Power}
use Rattle.form_ast.specs.declared.expr.Named.TheVariants.{Declared, Imaginary}
use Rattle.form_ast.specs.declared.expr.Restriction.{Restriction}
use Rattle.form_ast.specs.declared.expr.Restriction.TheVariants.{Names, Numbers}
use Rattle.form_ast.specs.declared.expr.Piece.{Piece}
use Rattle.form_number.specs.declared.number.Number.{Number}
use Rattle.form_ast.specs.declared.condition.Value.{Value}
use Rattle.form_ast.specs.declared.condition.Value.TheVariants as values
use Rattle.form_base.specs.declared.comparison.Comparison.{Comparison}
use Rattle.form_ast.specs.Conditions.{Condition, Test, nonzero, compared}
use Rattle.form_ast.specs.Conditions as conditions
use Rattle.form_ast.specs.declared.setting.Setting.{Setting}
use Rattle.form_ast.specs.declared.setting.Setting.TheVariants.{Plain, Right, Pattern}
use Rattle.form_ast.specs.declared.module.PlacedPart.{PlacedPart}
use Rattle.form_ast.specs.declared.statement.Statement.{Statement}
use Rattle.form_ast.specs.declared.statement.Statement.TheVariants.{Local, Rewrite, Multiply, If, ElseIf}
use Rattle.form_ast.specs.Syntax.{Label, named, wildcard, Entry, name_entry, number_entry, Sum, first, more, Product, one, times, over, Factor, factor, raised, Base, number, name, dot, delta, empty_call, call, parenthesis, Arguments, argument, further, Argument, expression, field, pieces_of_sum}
use Rattle.form_ast.specs.Patterns.{is_pattern, IsKnownPiece}
use Rattle.form_ast.specs.Written.{WrittenAction, WrittenBranch, part_written, parts_written, written}

-- ---- names, fields and powers

-- elements that are written are some
abbrev pub AreSome : Restriction → Type 0
AreSome (Names []) = ⊥
AreSome (Numbers []) = ⊥
AreSome _ = Unit {0}

-- wildcards stand in patterns alone
abbrev pub IsLawfulLabel : Setting → Label → Type 0
IsLawfulLabel at (named n) = Unit {0}
IsLawfulLabel at (wildcard n r) = (at ≡ Pattern) × AreSome r

abbrev pub IsLawfulEntry : Setting → Entry → Type 0
IsLawfulEntry at (name_entry n) = IsLawfulLabel at n
IsLawfulEntry at (number_entry n) = Unit {0}

-- a name as a power: in a right side one that is declared, in a pattern a wildcard, without a sign
abbrev pub IsLawfulExponent : Setting → Option Sign → Label → Type 0
IsLawfulExponent at sign (named (Declared n)) = at ≡ Right
IsLawfulExponent at sign (named (Imaginary spot)) = ⊥
IsLawfulExponent at sign (wildcard n r) = (at ≡ Pattern) × (sign ≡ None) × AreSome r

-- fields stand in patterns, and in the right sides of these
abbrev pub HasFields : Setting → Type 0
HasFields Plain = ⊥
HasFields _ = Unit {0}

-- so many parentheses may be open at a place, those of a power and of arguments with them
abbrev pub most_open : ℕ
most_open = 64

-- a minus before a number that isn't 0
abbrev pub IsNegative : Power → Type 0
IsNegative p = (p.sign ≡ Some Minus) × (p.number.value ≢ 0)

-- a power: its parenthesis, where it has one, is open there too
abbrev pub IsLawfulPower : ℕ → Option Power → Type 0
IsLawfulPower opened None = Unit {0}
IsLawfulPower opened (Some p) = p.is_parenthesized ≡ true → opened < most_open

abbrev pub IsNotNegative : Option Power → Type 0
IsNotNegative None = Unit {0}
IsNotNegative (Some p) = ¬ IsNegative p

-- what has parentheses has no negative power
abbrev pub IsPowerOf : Base → Option Power → Type 0
IsPowerOf (number n) power = Unit {0}
IsPowerOf (name n) power = Unit {0}
IsPowerOf (dot p q) power = Unit {0}
IsPowerOf _ power = IsNotNegative power

-- a number, a name without parentheses or a dot product
abbrev pub HasNoParenthesis : Base → Type 0
HasNoParenthesis (number n) = Unit {0}
HasNoParenthesis (name n) = Unit {0}
HasNoParenthesis (dot p q) = Unit {0}
HasNoParenthesis _ = ⊥

-- such a base, with or without a power
abbrev pub IsDivisor : Factor → Type 0
IsDivisor (factor b power) = HasNoParenthesis b
IsDivisor (raised b sign n) = HasNoParenthesis b

-- ---- trees

-- A tree may stand where so many parentheses are open: no more than 64 are open anywhere in it, a number, a name or a
-- dot product stands after `/`, what has parentheses has no negative power, and wildcards, fields and names as powers
-- stand where its setting has them.
abbrev mutual
  pub IsLawfulSum : Setting → ℕ → Sum → Type 0
  IsLawfulSum at opened (first sign p) = IsLawfulProduct at opened p
  IsLawfulSum at opened (more s sign p) = IsLawfulSum at opened s × IsLawfulProduct at opened p

  pub IsLawfulProduct : Setting → ℕ → Product → Type 0
  IsLawfulProduct at opened (one f) = IsLawfulFactor at opened f
  IsLawfulProduct at opened (times p f) = IsLawfulProduct at opened p × IsLawfulFactor at opened f
  IsLawfulProduct at opened (over p f) = IsLawfulProduct at opened p × IsLawfulFactor at opened f × IsDivisor f

  pub IsLawfulFactor : Setting → ℕ → Factor → Type 0
  IsLawfulFactor at opened (factor b power) = IsLawfulBase at opened b × IsLawfulPower opened power × IsPowerOf b power
  IsLawfulFactor at opened (raised b sign n) = IsLawfulBase at opened b × IsLawfulExponent at sign n

  pub IsLawfulBase : Setting → ℕ → Base → Type 0
  IsLawfulBase at opened (number n) = Unit {0}
  IsLawfulBase at opened (name n) = IsLawfulLabel at n
  IsLawfulBase at opened (dot p q) = IsLawfulLabel at p × IsLawfulLabel at q
  IsLawfulBase at opened (delta spot a b) = (opened < most_open) × IsLawfulEntry at a × IsLawfulEntry at b
  IsLawfulBase at opened (empty_call n) = (opened < most_open) × IsLawfulLabel at n
  IsLawfulBase at opened (call n args) = (opened < most_open) × IsLawfulLabel at n × IsLawfulArguments at (opened + 1) args
  IsLawfulBase at opened (parenthesis s) = (opened < most_open) × IsLawfulSum at (opened + 1) s

  pub IsLawfulArguments : Setting → ℕ → Arguments → Type 0
  IsLawfulArguments at opened (argument a) = IsLawfulArgument at opened a
  IsLawfulArguments at opened (further args a) = IsLawfulArguments at opened args × IsLawfulArgument at opened a

  pub IsLawfulArgument : Setting → ℕ → Argument → Type 0
  IsLawfulArgument at opened (expression s) = IsLawfulSum at opened s
  IsLawfulArgument at opened (field n) = HasFields at

-- the right side of a definition
abbrev pub IsLawful : Sum → Type 0
IsLawful s = IsLawfulSum Plain 0 s

-- the pieces are those of such a right side
pub record AreLawful (list : List Piece) : Type 0 where
  pub tree : Sum
  pub lawful : IsLawful tree
  pub pieces : list ≡ pieces_of_sum tree

-- the pieces are those of a pattern that stands where so many parentheses are open
pub record ArePatternWithin (opened : ℕ) (list : List Piece) : Type 0 where
  pub tree : Sum
  pub lawful : IsLawfulSum Pattern opened tree
  pub is_pattern : IsTrue (is_pattern tree)
  pub pieces : list ≡ pieces_of_sum tree

abbrev pub ArePattern : List Piece → Type 0
ArePattern list = ArePatternWithin 0 list

-- the pieces are those of a right side, whose powers by a name and fields are known from a pattern with these pieces
pub record AreRight (pattern list : List Piece) : Type 0 where
  pub tree : Sum
  pub lawful : IsLawfulSum Right 0 tree
  pub known : All (IsKnownPiece pattern) list
  pub pieces : list ≡ pieces_of_sum tree

-- ---- conditions

-- so many names may stand in one `count`
abbrev pub most_counted : ℕ
most_counted = 1000

-- a number by which another one is divided isn't 0
abbrev pub IsNoZero : Option Number → Type 0
IsNoZero None = Unit {0}
IsNoZero (Some d) = d.value ≢ 0

-- a value may stand where so many parentheses are open: what has parentheses opens one more
abbrev pub IsLawfulValue : ℕ → Value → Type 0
IsLawfulValue opened (values.Number sign n d) = IsNoZero d
IsLawfulValue opened values.Coefficient = Unit {0}
IsLawfulValue opened (values.Count names) = (opened < most_open) × (names ≢ []) × (length names ≤ most_counted)
IsLawfulValue opened (values.Match pattern) = (opened < most_open) × ArePatternWithin (opened + 1) pattern
IsLawfulValue opened (values.Occurs names) = (opened < most_open) × (names ≢ [])

-- so many parentheses are open where so many more may be opened
abbrev pub opened_at : ℕ → ℕ
opened_at deeper = most_open - deeper

-- a value
pub record IsLawfulAlone (deeper : ℕ) (test : Test) : Type 0 where
  pub value : Value
  pub lawful : IsLawfulValue (opened_at deeper) value
  pub is : test ≡ nonzero value

-- two values
pub record IsLawfulComparison (deeper : ℕ) (test : Test) : Type 0 where
  pub value : Value
  pub comparison : Comparison
  pub other : Value
  pub lawful : IsLawfulValue (opened_at deeper) value × IsLawfulValue (opened_at deeper) other
  pub is : test ≡ compared value comparison other

-- a condition in parentheses
pub record IsLawfulParenthesis (Lawful : Condition → Type 0) (test : Test) : Type 0 where
  pub condition : Condition
  pub lawful : Lawful condition
  pub is : test ≡ conditions.parenthesis condition

-- some lists of some such tests
abbrev pub AreLawfulAlternatives : (Test → Type 0) → Condition → Type 0
AreLawfulAlternatives Lawful c = (c ≢ []) × All (λ tests. (tests ≢ []) × All Lawful tests) c

-- a test may stand where so many more parentheses may be opened
unfoldable pub IsLawfulTest : ℕ → Test → Type 0
IsLawfulTest zero test = IsLawfulAlone zero test ⊎ IsLawfulComparison zero test
IsLawfulTest (suc deeper) test =
    IsLawfulAlone (suc deeper) test
    ⊎ (IsLawfulComparison (suc deeper) test ⊎ IsLawfulParenthesis (AreLawfulAlternatives (IsLawfulTest deeper)) test)

-- in the parenthesis of an `if`, which is one, 63 more may be opened
abbrev pub IsLawfulCondition : Condition → Type 0
IsLawfulCondition c = AreLawfulAlternatives (IsLawfulTest 63) c

-- ---- statements

abbrev pub IsLawfulStatement : Statement → Type 0
IsLawfulStatement (Local spelled pieces) = AreLawful pieces
IsLawfulStatement (Rewrite r) = ArePattern r.pattern × AreRight r.pattern r.right
IsLawfulStatement (Multiply side pieces) = AreLawful pieces
IsLawfulStatement (If c) = IsLawfulCondition c
IsLawfulStatement (ElseIf c) = IsLawfulCondition c
IsLawfulStatement _ = Unit {0}

-- each right side, pattern and condition in it is a lawful one
abbrev pub IsLawfulAction : WrittenAction → Type 0
IsLawfulAction a = All IsLawfulStatement (written a)

abbrev pub IsLawfulBlock : List WrittenAction → Type 0
IsLawfulBlock b = All IsLawfulAction b

abbrev pub IsLawfulBranch : WrittenBranch → Type 0
IsLawfulBranch b = IsLawfulCondition b.condition × IsLawfulBlock b.block

abbrev pub IsLawfulPart : PlacedPart → Type 0
IsLawfulPart p = All IsLawfulStatement (part_written p.part)

abbrev pub IsLawfulModule : List PlacedPart → Type 0
IsLawfulModule parts = All IsLawfulStatement (parts_written parts)

abbrev pub AreLawfulModules : List (List PlacedPart) → Type 0
AreLawfulModules modules = All IsLawfulModule modules
