-- Statements that are carried out on terms, over Ids: conditions, the functions of an `argument`, and what is summed over.
use Rattle.std.specs.Prelude.{ℕ, ℤ, pos, ◌==◌, neg_ℤ, if◌then◌else◌, List, [], ◌∷◌, ◌++◌, length, Option, Some, None, Result, Ok, Err}
use Rattle.form_base.specs.declared.cause.Cause.TheVariants.{NumberRange}
use Rattle.form_frac.specs.declared.frac_error.FracError.{FracError}
use Rattle.form_frac.specs.Fraction.{Fraction, make, whole}
use Rattle.form_names.specs.declared.kind.Kind.{Kind}
use Rattle.form_names.specs.declared.kind.Kind.TheVariants.{Symbol, Vector, Index, Function, CommutingFunction}
use Rattle.form_names.specs.Names.{Entry}
use Rattle.form_number.specs.declared.number.Number.{Number}
use Rattle.form_ast.specs.Conditions as written_condition
use Rattle.form_ast.specs.declared.condition.Value as written_value
use Rattle.form_ast.specs.declared.condition.Value.TheVariants as written_values
use Rattle.form_ast.specs.declared.condition.Weighted as written_weighted
use Rattle.form_ast.specs.declared.expr.Piece as written_tree
use Rattle.form_ast.specs.declared.expr.Sign.{Sign}
use Rattle.form_ast.specs.declared.expr.Sign.TheVariants.{Minus}
use Rattle.form_ast.specs.declared.expr.Spelled.{Spelled}
use Rattle.form_ast.specs.declared.picked.Picked as written_picked
use Rattle.form_ast.specs.Lawful.{IsLawfulValue}
use Rattle.form_base.specs.declared.condition.Test as by_test
use Rattle.form_base.specs.declared.condition.Test.TheOpen.{Test-F}
use Rattle.form_base.specs.declared.condition.Test.TheVariants.{Nonzero, Compared, Parenthesis}
use Rattle.form_tree.specs.Condition.{Alternatives, Test}
use Rattle.form_tree.specs.declared.condition.Counted.{Counted}
use Rattle.form_tree.specs.declared.condition.Counted.TheVariants as counted
use Rattle.form_tree.specs.declared.condition.Value.{Value}
use Rattle.form_tree.specs.declared.condition.Value.TheVariants as values
use Rattle.form_tree.specs.declared.condition.Weighted.{Weighted}
use Rattle.form_tree.specs.Conditions.{Parts, condition_of}
use Rattle.form_tree.specs.Patterns.{Pieces}
use Rattle.form_check.specs.declared.checked.Picked.{Picked}
use Rattle.form_pattern.specs.Pattern.{pattern_checked}
use Rattle.form_right_side.specs.Refusal.{Refusal, refused, ◌>>=◌, each, listed}
use Rattle.form_right_side.specs.RightSide.{value_within, found, wrong_kind, largest_number, largest_exponent}

-- ---- numbers

abbrev pub with_sign : Option Sign → ℕ → ℤ
with_sign (Some Minus) n = neg_ℤ (pos n)
with_sign _ n = pos n

-- A fraction in lowest terms. It is never refused: it isn't divided by 0, and both numbers are in their limits.
abbrev pub or_zero : Result Fraction FracError → Fraction
or_zero (Ok f) = f
or_zero (Err e) = whole (pos 0)

abbrev pub fraction_of : Option Sign → ℕ → ℕ → Fraction
fraction_of sign n d = or_zero (make (with_sign sign n) (pos d))

abbrev pub divisor : Option Number → Result ℕ Refusal
divisor None = Ok 1
divisor (Some d) = value_within largest_number d

abbrev pub number : Option Sign → Number → Option Number → Result Value Refusal
number sign n d = do
  numerator ← value_within largest_number n
  denominator ← divisor d
  Ok (values.Number (fraction_of sign numerator denominator))

-- ---- what is counted, and what occurs

abbrev pub weight : Option Sign → Number → Result ℤ Refusal
weight sign n = value_within largest_exponent n >>= (λ size. Ok (with_sign sign size))

abbrev pub counted_by : Spelled → ℕ → Kind → Result Counted Refusal
counted_by s id Symbol = Ok (counted.Symbol id)
counted_by s id Vector = Ok (counted.Vector id)
counted_by s id Function = Ok (counted.Function id)
counted_by s id CommutingFunction = Ok (counted.Function id)
counted_by s id kind = wrong_kind s

abbrev pub weighted : List Entry → written_weighted.Weighted → Result Weighted Refusal
weighted names w = do
  f ← found names w.name
  what ← counted_by w.name f.id f.kind
  size ← weight w.weight.sign w.weight.number
  Ok (record { counted = what; weight = size })

abbrev pub occurring_by : Spelled → ℕ → Kind → Result ℕ Refusal
occurring_by s id Symbol = Ok id
occurring_by s id Vector = Ok id
occurring_by s id (Index d) = Ok id
occurring_by s id Function = Ok id
occurring_by s id CommutingFunction = Ok id
occurring_by s id kind = wrong_kind s

abbrev pub occurring : List Entry → Spelled → Result ℕ Refusal
occurring names s = found names s >>= (λ f. occurring_by s f.id f.kind)

-- ---- conditions

-- a value, behind these patterns of its condition, and the patterns with its own
pub record ValueWith : Type 0 where
  pub value : Value
  pub patterns : List Pieces

abbrev pub value_with : Value → List Pieces → ValueWith
value_with v patterns = record { value = v; patterns = patterns }

abbrev pub count : List Entry → List written_weighted.Weighted → Result Value Refusal
count names ws = listed (weighted names) ws >>= (λ list. Ok (values.Count list))

abbrev pub matches : List Entry → List Pieces → List written_tree.Piece → Result ValueWith Refusal
matches names patterns p = pattern_checked names p >>= (λ made. Ok (record { value = values.Match (length patterns); patterns = patterns ++ made ∷ [] }))

abbrev pub occurs : List Entry → List Spelled → Result Value Refusal
occurs names ns = listed (occurring names) ns >>= (λ ids. Ok (values.Occurs ids))

abbrev pub behind : List Pieces → Result Value Refusal → Result ValueWith Refusal
behind patterns r = r >>= (λ v. Ok (record { value = v; patterns = patterns }))

abbrev pub value : List Entry → List Pieces → written_value.Value → Result ValueWith Refusal
value names patterns (written_values.Number sign n d) = behind patterns (number sign n d)
value names patterns written_values.Coefficient = behind patterns (Ok values.Coefficient)
value names patterns (written_values.Count ws) = behind patterns (count names ws)
value names patterns (written_values.Match p) = matches names patterns p
value names patterns (written_values.Occurs ns) = behind patterns (occurs names ns)

-- something of a condition, and the patterns with its own
pub record With (A : Type 0) : Type 0 where
  pub item : A
  pub patterns : List Pieces

abbrev pub with_patterns : {A : Type 0} → A → List Pieces → With A
with_patterns x patterns = record { item = x; patterns = patterns }

-- one further, behind the patterns of those before
abbrev pub and_one : {X A : Type 0} → (X → List Pieces → Result (With A) Refusal) → With (List A) → X → Result (With (List A)) Refusal
and_one make made x = make x made.patterns >>= (λ one. Ok (with_patterns (made.item ++ one.item ∷ []) one.patterns))

-- all of them, from the left
abbrev pub all_of : {X A : Type 0} → (X → List Pieces → Result (With A) Refusal) → List X → List Pieces → Result (With (List A)) Refusal
all_of make xs patterns = each (and_one make) (with_patterns [] patterns) xs

-- what comes of a test behind these patterns
abbrev pub Checks : Type 0
Checks = List Pieces → Result (With Test) Refusal

abbrev pub in_parentheses : With Alternatives → Result (With Test) Refusal
in_parentheses made = Ok (with_patterns (Parenthesis made.item) made.patterns)

-- a test, with what comes of each test in its parentheses in the place of that
abbrev pub checked_test : List Entry → Test-F written_value.Value Checks → Checks
checked_test names (Test-F.Nonzero v) patterns = do
  x ← value names patterns v
  Ok (with_patterns (Nonzero x.value) x.patterns)
checked_test names (Test-F.Compared v by w) patterns = do
  x ← value names patterns v
  y ← value names x.patterns w
  Ok (with_patterns (Compared x.value by y.value) y.patterns)
checked_test names (Test-F.Parenthesis c) patterns = all_of (all_of (λ check. check)) c patterns >>= in_parentheses

unfoldable pub test : List Entry → written_condition.Test → Checks
test names = by_test.fold-Test written_value.Value Checks (checked_test names)

abbrev pub conjunction : List Entry → List written_condition.Test → List Pieces → Result (With (List Test)) Refusal
conjunction names tests = all_of (test names) tests

abbrev pub alternatives : List Entry → written_condition.Condition → List Pieces → Result (With Alternatives) Refusal
alternatives names c = all_of (conjunction names) c

abbrev pub condition : List Entry → written_condition.Condition → Result Parts Refusal
condition names c = alternatives names c [] >>= (λ made. Ok (condition_of made.item made.patterns))

-- ---- the functions of an `argument`

abbrev pub function_by : Spelled → ℕ → Kind → Result ℕ Refusal
function_by s id Function = Ok id
function_by s id CommutingFunction = Ok id
function_by s id kind = wrong_kind s

abbrev pub function : List Entry → Spelled → Result ℕ Refusal
function names s = found names s >>= (λ f. function_by s f.id f.kind)

-- the number of an argument, from 1
abbrev pub argument_number : Number → Result ℕ Refusal
argument_number n = value_within largest_number n >>= (λ value. if value == 0 then refused NumberRange n.spot else Ok value)

abbrev pub picked : List Entry → written_picked.Picked → Result Picked Refusal
picked names p = do
  id ← function names p.function
  numbers ← listed argument_number p.numbers
  Ok (record { function = id; numbers = numbers })

-- ---- sums

abbrev pub index_by : Spelled → ℕ → Kind → Result ℕ Refusal
index_by s id (Index d) = Ok id
index_by s id kind = wrong_kind s

abbrev pub summed_index : List Entry → Spelled → Result ℕ Refusal
summed_index names s = found names s >>= (λ f. index_by s f.id f.kind)

-- ---- what may be written

-- somewhere
abbrev pub IsWrittenValue : written_value.Value → Type 0
IsWrittenValue v = (opened : ℕ) × IsLawfulValue opened v
