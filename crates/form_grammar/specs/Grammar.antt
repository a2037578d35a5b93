-- The grammar of right sides and patterns: how each tree is written.
use Rattle.std.specs.Prelude.{◌≡◌, ℕ, List, [], ◌∷◌, ◌++◌, Option, Some, None, if◌then◌else◌, IsTrue, All}
use Rattle.form_ast.specs.declared.expr.Sign as signs
use Rattle.form_ast.specs.declared.expr.Power as powers
use Rattle.form_ast.specs.declared.expr.Named.{Named}
use Rattle.form_ast.specs.declared.expr.Named.TheVariants as names
use Rattle.form_ast.specs.declared.expr.Spelled.{Spelled}
use Rattle.form_ast.specs.declared.expr.SignedNumber.{SignedNumber}
use Rattle.form_ast.specs.declared.expr.Restriction.{Restriction}
use Rattle.form_ast.specs.declared.expr.Restriction.TheVariants as restrictions
use Rattle.form_ast.specs.declared.statement.WrittenElements.{WrittenElements}
use Rattle.form_ast.specs.declared.statement.WrittenElements.TheVariants as elements
use Rattle.form_ast.specs.declared.expr.Piece.{Piece}
use Rattle.form_ast.specs.declared.setting.Setting.TheVariants.{Right, Pattern}
use Rattle.form_ast.specs.Syntax.{Label, named, wildcard, Entry, name_entry, number_entry, Sum, first, more, Product, one, times, over, Factor, factor, raised, Base, number, name, dot, delta, empty_call, call, parenthesis, Arguments, argument, further, Argument, expression, field, pieces_of_sum}
use Rattle.form_ast.specs.Lawful.{IsLawful, IsLawfulSum}
use Rattle.form_ast.specs.Patterns.{is_pattern, IsKnownPiece}
use Rattle.form_grammar.specs.declared.terminal.Terminal.{Terminal}
use Rattle.form_grammar.specs.declared.terminal.Terminal.TheVariants.{Number, Name, Imaginary, Delta, Sign, Times, Over, Raise, Open, Close, Comma, Period, Question, OpenBrace, CloseBrace}

abbrev pub written_sign : Option signs.Sign → List Terminal
written_sign None = []
written_sign (Some sign) = Sign sign ∷ []

-- ---- names

-- name { "," name }
abbrev pub further_names : List Spelled → List Terminal
further_names [] = []
further_names (n ∷ ns) = Comma ∷ Name n ∷ further_names ns

abbrev pub written_names : List Spelled → List Terminal
written_names [] = []
written_names (n ∷ ns) = Name n ∷ further_names ns

-- [sign] number { "," [sign] number }
abbrev pub written_number : SignedNumber → List Terminal
written_number n = written_sign n.sign ++ Number n.number ∷ []

abbrev pub further_numbers : List SignedNumber → List Terminal
further_numbers [] = []
further_numbers (n ∷ ns) = Comma ∷ written_number n ++ further_numbers ns

abbrev pub written_numbers : List SignedNumber → List Terminal
written_numbers [] = []
written_numbers (n ∷ ns) = written_number n ++ further_numbers ns

-- the elements of a set that is declared
abbrev pub written_elements : WrittenElements → List Terminal
written_elements (elements.Names ns) = written_names ns
written_elements (elements.Numbers ns) = written_numbers ns

-- [ set | "{" elements "}" ]
abbrev pub written_restriction : Restriction → List Terminal
written_restriction restrictions.Any = []
written_restriction (restrictions.Set n) = Name n ∷ []
written_restriction (restrictions.Names ns) = OpenBrace ∷ written_names ns ++ CloseBrace ∷ []
written_restriction (restrictions.Numbers ns) = OpenBrace ∷ written_numbers ns ++ CloseBrace ∷ []

abbrev pub written_named : Named → Terminal
written_named (names.Declared n) = Name n
written_named (names.Imaginary spot) = Imaginary spot

-- name | name "?" restriction
abbrev pub written_name : Label → List Terminal
written_name (named n) = written_named n ∷ []
written_name (wildcard n r) = Name n ∷ Question ∷ written_restriction r

-- ---- powers

-- [sign] number, alone or in parentheses
abbrev pub written_exponent : powers.Power → List Terminal
written_exponent p =
    if p.is_parenthesized then Open ∷ written_sign p.sign ++ Number p.number ∷ Close ∷ []
    else written_sign p.sign ++ Number p.number ∷ []

abbrev pub written_power : Option powers.Power → List Terminal
written_power None = []
written_power (Some p) = Raise ∷ written_exponent p

-- ---- trees

-- name | number
abbrev pub written_entry : Entry → List Terminal
written_entry (name_entry n) = written_name n
written_entry (number_entry n) = Number n ∷ []

abbrev mutual
  -- [sign] product { sign product }
  pub written_sum : Sum → List Terminal
  written_sum (first sign p) = written_sign sign ++ written_product p
  written_sum (more s sign p) = written_sum s ++ Sign sign ∷ written_product p

  -- factor { ("*" | "/") factor }
  pub written_product : Product → List Terminal
  written_product (one f) = written_factor f
  written_product (times p f) = written_product p ++ Times ∷ written_factor f
  written_product (over p f) = written_product p ++ Over ∷ written_factor f

  -- base [ "^" power ], where a power may be [sign] name
  pub written_factor : Factor → List Terminal
  written_factor (factor b power) = written_base b ++ written_power power
  written_factor (raised b sign n) = written_base b ++ Raise ∷ written_sign sign ++ written_name n

  -- number | name | name "." name | "d_" "(" entry "," entry ")" | name "(" [ arguments ] ")" | "(" sum ")"
  pub written_base : Base → List Terminal
  written_base (number n) = Number n ∷ []
  written_base (name n) = written_name n
  written_base (dot p q) = written_name p ++ Period ∷ written_name q
  written_base (delta spot a b) = Delta spot ∷ Open ∷ written_entry a ++ Comma ∷ written_entry b ++ Close ∷ []
  written_base (empty_call n) = written_name n ++ Open ∷ Close ∷ []
  written_base (call n args) = written_name n ++ Open ∷ written_arguments args ++ Close ∷ []
  written_base (parenthesis s) = Open ∷ written_sum s ++ Close ∷ []

  -- argument { "," argument }
  pub written_arguments : Arguments → List Terminal
  written_arguments (argument a) = written_argument a
  written_arguments (further args a) = written_arguments args ++ Comma ∷ written_argument a

  -- sum | "?" name
  pub written_argument : Argument → List Terminal
  written_argument (expression s) = written_sum s
  written_argument (field n) = Question ∷ Name n ∷ []

-- The terminals are a lawful right side with these pieces.
pub record IsExpr (terminals : List Terminal) (pieces : List Piece) : Type 0 where
  pub tree : Sum
  pub lawful : IsLawful tree
  pub written : terminals ≡ written_sum tree
  pub kept : pieces ≡ pieces_of_sum tree

-- The terminals are a pattern with these pieces.
pub record IsPatternText (terminals : List Terminal) (pieces : List Piece) : Type 0 where
  pub tree : Sum
  pub lawful : IsLawfulSum Pattern 0 tree
  pub pattern : IsTrue (is_pattern tree)
  pub written : terminals ≡ written_sum tree
  pub kept : pieces ≡ pieces_of_sum tree

-- The terminals are a pattern with these pieces that stands where so many parentheses are open.
pub record IsPatternTextWithin (opened : ℕ) (terminals : List Terminal) (pieces : List Piece) : Type 0 where
  pub tree : Sum
  pub lawful : IsLawfulSum Pattern opened tree
  pub pattern : IsTrue (is_pattern tree)
  pub written : terminals ≡ written_sum tree
  pub kept : pieces ≡ pieces_of_sum tree

-- The terminals are the right side, with these pieces, of an `id` or an `also` whose pattern has those pieces.
pub record IsRightText (pattern : List Piece) (terminals : List Terminal) (pieces : List Piece) : Type 0 where
  pub tree : Sum
  pub lawful : IsLawfulSum Right 0 tree
  pub known : All (IsKnownPiece pattern) pieces
  pub written : terminals ≡ written_sum tree
  pub kept : pieces ≡ pieces_of_sum tree
