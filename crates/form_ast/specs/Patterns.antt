-- Which trees are patterns: products, in which an argument that has wildcards is such a product too.
use Rattle.std.specs.Prelude.{ℕ, ◌==◌, Bool, true, false, not, ◌&&◌, ◌||◌, if◌then◌else◌, IsTrue, List, [], ◌∷◌, ◌++◌, codes, sum_by, count_by, Option, Some, None}
use Rattle.std.specs.List.{list_any, list_all}
use Rattle.std.specs.Str.{bytes_eq}
use Rattle.form_ast.specs.declared.expr.Sign.{Sign}
use Rattle.form_ast.specs.declared.expr.Sign.TheVariants.{Minus}
use Rattle.form_ast.specs.declared.expr.Power.{Power}
use Rattle.form_ast.specs.declared.expr.Named.{Named}
use Rattle.form_ast.specs.declared.expr.Named.TheVariants.{Declared, Imaginary}
use Rattle.form_ast.specs.declared.weight.Key.{Key}
use Rattle.form_ast.specs.declared.weight.Key.TheVariants.{Alone, Dotted}
use Rattle.form_ast.specs.declared.weight.Weight.{Weight}
use Rattle.form_ast.specs.declared.weight.Weight.TheVariants.{Keyed, Lone, Free}
use Rattle.form_ast.specs.declared.expr.Piece.{Piece}
use Rattle.form_ast.specs.declared.expr.Piece.TheVariants as pieces
use Rattle.form_ast.specs.Syntax.{Label, named, wildcard, Entry, name_entry, number_entry, Sum, first, more, Product, one, times, over, Factor, factor, raised, Base, number, name, dot, delta, empty_call, call, parenthesis, Arguments, argument, further, Argument, expression, field, name_of}

-- ---- wildcards

abbrev pub is_wildcard : Label → Bool
is_wildcard (named n) = false
is_wildcard (wildcard n r) = true

abbrev pub entry_has_wildcard : Entry → Bool
entry_has_wildcard (name_entry n) = is_wildcard n
entry_has_wildcard (number_entry n) = false

abbrev mutual
  -- a wildcard or a field stands in it
  pub has_wildcard : Sum → Bool
  has_wildcard (first sign p) = product_has_wildcard p
  has_wildcard (more s sign p) = has_wildcard s || product_has_wildcard p

  pub product_has_wildcard : Product → Bool
  product_has_wildcard (one f) = factor_has_wildcard f
  product_has_wildcard (times p f) = product_has_wildcard p || factor_has_wildcard f
  product_has_wildcard (over p f) = product_has_wildcard p || factor_has_wildcard f

  pub factor_has_wildcard : Factor → Bool
  factor_has_wildcard (factor b power) = base_has_wildcard b
  factor_has_wildcard (raised b sign n) = base_has_wildcard b || is_wildcard n

  pub base_has_wildcard : Base → Bool
  base_has_wildcard (number n) = false
  base_has_wildcard (name n) = is_wildcard n
  base_has_wildcard (dot p q) = is_wildcard p || is_wildcard q
  base_has_wildcard (delta spot a b) = entry_has_wildcard a || entry_has_wildcard b
  base_has_wildcard (empty_call n) = is_wildcard n
  base_has_wildcard (call n args) = is_wildcard n || arguments_have_wildcard args
  base_has_wildcard (parenthesis s) = has_wildcard s

  pub arguments_have_wildcard : Arguments → Bool
  arguments_have_wildcard (argument a) = argument_has_wildcard a
  arguments_have_wildcard (further args a) = arguments_have_wildcard args || argument_has_wildcard a

  pub argument_has_wildcard : Argument → Bool
  argument_has_wildcard (expression s) = has_wildcard s
  argument_has_wildcard (field n) = true

-- ---- what remains of a product once equal factors are joined

-- how a name is spelled
abbrev pub text_of : Named → List ℕ
text_of (Declared s) = s.name
text_of (Imaginary spot) = codes "i_"

-- ---- what is joined: names alone that are spelled alike, wildcards with wildcards and others with others, and dot
-- products of such names, in either order

abbrev pub key_of : Label → Key
key_of n = Alone (text_of (name_of n)) (is_wildcard n)

abbrev pub dotted_key : Label → Label → Key
dotted_key p q = Dotted (text_of (name_of p)) (is_wildcard p) (text_of (name_of q)) (is_wildcard q)

abbrev pub is_same_mark : Bool → Bool → Bool
is_same_mark true mark = mark
is_same_mark false mark = not mark

abbrev pub is_same_name : List ℕ → Bool → List ℕ → Bool → Bool
is_same_name a m b n = bytes_eq a b && is_same_mark m n

abbrev pub is_same_key : Key → Key → Bool
is_same_key (Alone a m) (Alone b n) = is_same_name a m b n
is_same_key (Dotted a m b n) (Dotted c k d l) =
    (is_same_name a m c k && is_same_name b n d l) || (is_same_name a m d l && is_same_name b n c k)
is_same_key _ _ = false

abbrev pub is_minus : Option Sign → Bool
is_minus (Some Minus) = true
is_minus _ = false

abbrev pub is_below_zero : Option Power → Bool
is_below_zero None = false
is_below_zero (Some p) = is_minus p.sign

abbrev pub size_of : Option Power → ℕ
size_of None = 1
size_of (Some p) = p.number.value

-- A factor as it counts: what may be joined, with its power, below zero or not; anything else, with the size of its power;
-- or a name to the power that a wildcard stands for.
abbrev pub weight_of : Factor → Weight
weight_of (factor (name n) power) = Keyed (key_of n) (is_below_zero power) (size_of power)
weight_of (factor (dot p q) power) = Keyed (dotted_key p q) (is_below_zero power) (size_of power)
weight_of (factor b power) = Lone (size_of power)
weight_of (raised (name n) sign m) = Free (text_of (name_of n))
weight_of (raised b sign m) = Lone 1

abbrev pub weights_of : Product → List Weight
weights_of (one f) = weight_of f ∷ []
weights_of (times p f) = weights_of p ++ weight_of f ∷ []
weights_of (over p f) = weights_of p ++ weight_of f ∷ []

-- the size of a power with this key, below zero or not
abbrev pub size_at : Key → Bool → Weight → ℕ
size_at key below (Keyed k b size) = if is_same_key key k && is_same_mark below b then size else 0
size_at key below _ = 0

-- the powers above zero and those below it cancel
abbrev pub is_cancelled : List Weight → Key → Bool
is_cancelled ws key = sum_by (size_at key false) ws == sum_by (size_at key true) ws

-- a factor remains
abbrev pub stays : List Weight → Weight → Bool
stays ws (Keyed key below size) = not (is_cancelled ws key)
stays ws (Lone size) = not (size == 0)
stays ws (Free text) = true

-- it is this name alone, wildcard or not, to some power
abbrev pub has_name : List ℕ → Weight → Bool
has_name text (Keyed (Alone a m) below size) = bytes_eq text a
has_name text (Free a) = bytes_eq text a
has_name text _ = false

-- a name to the power that a wildcard stands for is the base of no other factor
abbrev pub stands_alone : List Weight → Weight → Bool
stands_alone ws (Free text) = count_by (has_name text) ws == 1
stands_alone ws _ = true

-- at least one factor remains, and powers of wildcards stand on such names
abbrev pub are_balanced : List Weight → Bool
are_balanced ws = list_any (stays ws) ws && list_all (stands_alone ws) ws

-- ---- patterns

abbrev pub is_name : Base → Bool
is_name (name n) = true
is_name _ = false

abbrev mutual
  -- a product without a sign
  pub is_pattern : Sum → Bool
  is_pattern (first None p) = has_pattern_factors p && are_balanced (weights_of p)
  is_pattern _ = false

  -- factors joined by `*` alone, neither numbers nor parentheses; a power that a wildcard stands for is that of a name
  pub has_pattern_factors : Product → Bool
  has_pattern_factors (one f) = is_pattern_factor f
  has_pattern_factors (times p f) = has_pattern_factors p && is_pattern_factor f
  has_pattern_factors (over p f) = false

  pub is_pattern_factor : Factor → Bool
  is_pattern_factor (factor b power) = is_pattern_base b
  is_pattern_factor (raised b sign n) = is_name b

  pub is_pattern_base : Base → Bool
  is_pattern_base (number n) = false
  is_pattern_base (call n args) = are_pattern_arguments args
  is_pattern_base (parenthesis s) = false
  is_pattern_base _ = true

  pub are_pattern_arguments : Arguments → Bool
  are_pattern_arguments (argument a) = is_pattern_argument a
  are_pattern_arguments (further args a) = are_pattern_arguments args && is_pattern_argument a

  -- an argument that has wildcards is a pattern too
  pub is_pattern_argument : Argument → Bool
  is_pattern_argument (expression s) = if has_wildcard s then is_pattern s else true
  is_pattern_argument (field n) = true

-- ---- what a right side knows of its pattern

-- a piece that is a power by this name
abbrev pub is_power_by : List ℕ → Piece → Bool
is_power_by text (pieces.RaisedByName sign n) = bytes_eq text (text_of n)
is_power_by text _ = false

-- a piece that is this field
abbrev pub is_field : List ℕ → Piece → Bool
is_field text (pieces.Field n) = bytes_eq text n.name
is_field text _ = false

-- A right side has those names as powers, and those fields, that stand so in its pattern.
abbrev pub is_known_piece : List Piece → Piece → Bool
is_known_piece pattern (pieces.RaisedByName sign n) = list_any (is_power_by (text_of n)) pattern
is_known_piece pattern (pieces.Field n) = list_any (is_field n.name) pattern
is_known_piece pattern _ = true

abbrev pub IsKnownPiece : List Piece → Piece → Type 0
IsKnownPiece pattern piece = IsTrue (is_known_piece pattern piece)
