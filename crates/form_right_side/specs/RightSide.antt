-- A right side over Ids: the tree as it is written, its names, powers and numbers looked at from the left, or the first
-- refusal.
use Rattle.std.specs.Prelude.{ℕ, ℤ, pos, neg_ℤ, Bool, true, false, ◌==◌, ◌&&◌, ◌||◌, not, nat_le, if◌then◌else◌, List, [], ◌∷◌, codes, length, position, unwrap_or, Option, Some, None, Result, Ok, Err}
use Rattle.std.specs.List.{list_any}
use Rattle.std.specs.Str.{bytes_eq}
use Rattle.form_base.specs.declared.cause.Cause.TheVariants.{Undeclared, WrongKind, NumberRange}
use Rattle.form_base.specs.declared.spot.Spot.{Spot}
use Rattle.form_names.specs.declared.kind.Kind as kinds
use Rattle.form_names.specs.declared.kind.Kind.TheVariants.{Symbol, Vector, Index, Function, CommutingFunction, Expression, Set}
use Rattle.form_names.specs.Names.{Entry, lookup, kind_at}
use Rattle.form_term.specs.declared.index.Index as indices
use Rattle.form_term.specs.declared.index.Index.TheVariants as by_index
use Rattle.form_ast.specs.declared.expr.Sign.{Sign}
use Rattle.form_ast.specs.declared.expr.Sign.TheVariants as signs
use Rattle.form_number.specs.declared.number.Number.{Number}
use Rattle.form_number.specs.Numbers.{capped}
use Rattle.form_ast.specs.declared.expr.Power as written_powers
use Rattle.form_ast.specs.declared.expr.Spelled.{Spelled}
use Rattle.form_ast.specs.declared.expr.Named.{Named}
use Rattle.form_ast.specs.declared.expr.Named.TheVariants.{Declared, Imaginary}
use Rattle.form_ast.specs.declared.expr.Piece.{Piece}
use Rattle.form_ast.specs.declared.expr.Piece.TheVariants as written
use Rattle.form_ast.specs.Building.{tree_of}
use Rattle.form_ast.specs.Syntax as syntax
use Rattle.form_tree.specs.declared.tree.Piece as resolved
use Rattle.form_tree.specs.Tree as tree
use Rattle.form_right_side.specs.declared.resolved.End as ends
use Rattle.form_right_side.specs.declared.resolved.End.TheVariants as an_end
use Rattle.form_right_side.specs.declared.resolved.Head as heads
use Rattle.form_right_side.specs.declared.resolved.Head.TheVariants as a_head
use Rattle.form_right_side.specs.declared.resolved.Found.{Found}
use Rattle.form_right_side.specs.declared.powers.Power.{Power}
use Rattle.form_right_side.specs.Refusal.{Refusal, refused, ◌>>=◌}

-- ---- numbers and powers

-- the largest number, 2^127-1
abbrev pub largest_number : ℕ
largest_number = 170141183460469231731687303715884105727

-- the largest power of a symbol or a dot product, and of anything else, in size
abbrev pub largest_exponent : ℕ
largest_exponent = 1000000000

abbrev pub largest_power : ℕ
largest_power = 1000

-- the largest fixed index
abbrev pub largest_index : ℕ
largest_index = 127

-- A written power as far as limits ask: one past 2^127-1 is past each of them, and counts as 2^127.
abbrev pub counted : Option written_powers.Power → Option Power
counted None = None
counted (Some power) = Some (record { sign = power.sign; number = capped power.number })

-- the value of a number, which has a limit
abbrev pub value_within : ℕ → Number → Result ℕ Refusal
value_within most n = if nat_le n.value most then Ok n.value else refused NumberRange n.spot

-- the size of a power, which has a limit; 1 where none is written
abbrev pub size_within : ℕ → Option Power → Result ℕ Refusal
size_within most None = Ok 1
size_within most (Some power) = if nat_le power.number.value most then Ok power.number.value else refused NumberRange power.number.spot

abbrev pub is_minus : Option Sign → Bool
is_minus None = false
is_minus (Some signs.Plus) = false
is_minus (Some signs.Minus) = true

abbrev pub has_minus : Option Power → Bool
has_minus None = false
has_minus (Some power) = is_minus power.sign

abbrev pub is_zero : Option Power → Bool
is_zero None = false
is_zero (Some power) = power.number.value == 0

-- after `/` a power changes its sign
abbrev pub is_below_zero : Bool → Option Power → Bool
is_below_zero is_over power = if is_over then not (has_minus power) else has_minus power

-- the exponent of a factor, which stands after `/` or not, and whose power has this size
abbrev pub exponent : Bool → Option Power → ℕ → ℤ
exponent is_over power size = if is_below_zero is_over power then neg_ℤ (pos size) else pos size

-- The exponent of a number. What a negative power or `/` inverts may not be 0: so a 0 with a negative power keeps an
-- exponent below zero after `/` too.
abbrev pub number_exponent : ℕ → Bool → Option Power → ℕ → ℤ
number_exponent value is_over power size =
    if (value == 0) && has_minus power then neg_ℤ (pos size) else exponent is_over power size

-- It stands after `/`, or with a negative power. A power of -0 isn't negative.
abbrev pub is_inverted : Bool → Option Power → Bool
is_inverted is_over power = is_over || (has_minus power && not (is_zero power))

-- a number, up to the largest
abbrev pub number : Bool → Number → Option Power → Result tree.Factor Refusal
number is_over n power =
    value_within largest_number n >>= (λ value. size_within largest_power power >>= (λ size. Ok (tree.number value (number_exponent value is_over power size))))

-- ---- names

-- how a name is spelled, and where
abbrev pub spelled_of : Named → Spelled
spelled_of (Declared s) = s
spelled_of (Imaginary spot) = record { name = codes "i_"; spot = spot }

abbrev pub undeclared : {X : Type 0} → Spelled → Result X Refusal
undeclared s = refused (Undeclared s.name) s.spot

abbrev pub wrong : Spelled → Refusal
wrong s = record { cause = WrongKind s.name; spot = s.spot }

abbrev pub wrong_kind : {X : Type 0} → Spelled → Result X Refusal
wrong_kind s = Err (wrong s)

-- what a name is declared as
abbrev pub found_as : Spelled → ℕ → Option kinds.Kind → Result Found Refusal
found_as s id None = undeclared s
found_as s id (Some kind) = Ok (record { id = id; kind = kind })

abbrev pub found_at : List Entry → Spelled → Option ℕ → Result Found Refusal
found_at names s None = undeclared s
found_at names s (Some id) = found_as s id (kind_at names id)

abbrev pub found : List Entry → Spelled → Result Found Refusal
found names s = found_at names s (lookup names s.name)

-- the size of the power of what isn't inverted
abbrev pub size_alone : Bool → Option Power → Spelled → Result ℕ Refusal
size_alone is_over power s = if is_inverted is_over power then wrong_kind s else size_within largest_power power

-- What a right side knows of its pattern: the Ids of the names that are wildcards there, and the names of its fields, in the
-- order in which each stands there first. The right side of a definition has no pattern.
pub record Known : Type 0 where
  pub wildcards : List ℕ
  pub fields : List (List ℕ)

abbrev pub nothing_known : Known
nothing_known = record { wildcards = []; fields = [] }

abbrev pub is_wildcard : Known → ℕ → Bool
is_wildcard known id = list_any (λ w. w == id) known.wildcards

-- the number of a field
abbrev pub field_number : List (List ℕ) → List ℕ → ℕ
field_number fields name = unwrap_or (position (λ f. bytes_eq name f) fields) (length fields)

-- a symbol; one that is a wildcard keeps its power as it is written, and whether it stands after `/`
abbrev pub symbol_factor : Bool → Bool → ℕ → Option Power → ℕ → tree.Factor
symbol_factor is_wild is_over id power size =
    if is_wild then tree.wild id is_over (exponent false power size) else tree.symbol id (exponent is_over power size)

abbrev pub symbol : Known → Bool → ℕ → Option Power → Result tree.Factor Refusal
symbol known is_over id power = size_within largest_exponent power >>= (λ size. Ok (symbol_factor (is_wildcard known id) is_over id power size))

-- a declared name alone: a symbol, a function without arguments, or an expression that stands
abbrev pub by_kind : (ℕ → Bool) → Known → Bool → Spelled → Option Power → ℕ → kinds.Kind → Result tree.Factor Refusal
by_kind stands known is_over s power id Symbol = symbol known is_over id power
by_kind stands known is_over s power id Vector = wrong_kind s
by_kind stands known is_over s power id (Index d) = wrong_kind s
by_kind stands known is_over s power id Function = size_alone is_over power s >>= (λ size. Ok (tree.function id false tree.empty size))
by_kind stands known is_over s power id CommutingFunction = size_alone is_over power s >>= (λ size. Ok (tree.function id true tree.empty size))
by_kind stands known is_over s power id Expression = if stands id then (size_alone is_over power s >>= (λ size. Ok (tree.stored id size))) else wrong_kind s
by_kind stands known is_over s power id Set = wrong_kind s

abbrev pub name : List Entry → (ℕ → Bool) → Known → Bool → Named → Option Power → Result tree.Factor Refusal
name names stands known is_over (Imaginary spot) power = size_alone is_over power (spelled_of (Imaginary spot)) >>= (λ size. Ok (tree.imaginary size))
name names stands known is_over (Declared s) power = found names s >>= (λ f. by_kind stands known is_over s power f.id f.kind)

-- ---- vectors and indices

abbrev pub vector_of : Spelled → ℕ → kinds.Kind → Result ℕ Refusal
vector_of s id Vector = Ok id
vector_of s id _ = wrong_kind s

abbrev pub vector : List Entry → Named → Result ℕ Refusal
vector names (Imaginary spot) = wrong_kind (spelled_of (Imaginary spot))
vector names (Declared s) = found names s >>= (λ f. vector_of s f.id f.kind)

-- a dot product of two names
abbrev pub dot : List Entry → Bool → Named → Named → Option Power → Result tree.Factor Refusal
dot names is_over p q power =
    vector names p >>= (λ left. vector names q >>= (λ right. size_within largest_exponent power >>= (λ size. Ok (tree.dot left right (exponent is_over power size)))))

abbrev pub end_of : Spelled → ℕ → kinds.Kind → Result ends.End Refusal
end_of s id (Index d) = Ok (an_end.Index id)
end_of s id Vector = Ok (an_end.Vector id)
end_of s id _ = wrong_kind s

abbrev pub named_end : List Entry → Named → Result ends.End Refusal
named_end names (Imaginary spot) = wrong_kind (spelled_of (Imaginary spot))
named_end names (Declared s) = found names s >>= (λ f. end_of s f.id f.kind)

abbrev pub fixed_end : Number → Result ends.End Refusal
fixed_end n = value_within largest_index n >>= (λ value. Ok (an_end.Fixed value))

-- what stands in `d_` or in the parentheses of a vector: an index, a fixed index or a vector
abbrev pub end : List Entry → syntax.Entry → Result ends.End Refusal
end names (syntax.number_entry n) = fixed_end n
end names (syntax.name_entry n) = named_end names (syntax.name_of n)

-- an index and an end: a component or a delta
abbrev pub linked_index : indices.Index → ends.End → ℕ → tree.Factor
linked_index i (an_end.Vector p) size = tree.component (record { vector = p; index = i }) size
linked_index i (an_end.Fixed n) size = tree.delta i (by_index.Fixed n) size
linked_index i (an_end.Index j) size = tree.delta i (by_index.Declared j) size

-- two ends: a dot product, a component or a delta
abbrev pub linked : ends.End → ends.End → ℕ → tree.Factor
linked (an_end.Vector p) (an_end.Vector q) size = tree.dot p q (pos size)
linked (an_end.Vector p) (an_end.Fixed n) size = tree.component (record { vector = p; index = by_index.Fixed n }) size
linked (an_end.Vector p) (an_end.Index i) size = tree.component (record { vector = p; index = by_index.Declared i }) size
linked (an_end.Fixed n) e size = linked_index (by_index.Fixed n) e size
linked (an_end.Index i) e size = linked_index (by_index.Declared i) e size

abbrev pub linked_to : ends.End → ends.End → Option Power → Result tree.Factor Refusal
linked_to a b power = size_within largest_power power >>= (λ size. Ok (linked a b size))

abbrev pub delta : List Entry → syntax.Entry → syntax.Entry → Option Power → Result tree.Factor Refusal
delta names a b power = end names a >>= (λ first. end names b >>= (λ second. linked_to first second power))

-- ---- names with arguments

abbrev pub head_of : Spelled → ℕ → kinds.Kind → Result heads.Head Refusal
head_of s id Function = Ok (a_head.Function id false)
head_of s id CommutingFunction = Ok (a_head.Function id true)
head_of s id Vector = Ok (a_head.Vector id)
head_of s id _ = wrong_kind s

-- a name before parentheses: a function or a vector
abbrev pub head : List Entry → Named → Result heads.Head Refusal
head names (Imaginary spot) = wrong_kind (spelled_of (Imaginary spot))
head names (Declared s) = found names s >>= (λ f. head_of s f.id f.kind)

-- an argument that is one name or one number
abbrev pub alone : syntax.Sum → Option syntax.Entry
alone (syntax.first None (syntax.one (syntax.factor (syntax.number n) None))) = Some (syntax.number_entry n)
alone (syntax.first None (syntax.one (syntax.factor (syntax.name n) None))) = Some (syntax.name_entry n)
alone _ = None

-- a name where none of its kind can stand
abbrev pub misplaced_at : Spelled → Option ℕ → Refusal
misplaced_at s None = record { cause = Undeclared s.name; spot = s.spot }
misplaced_at s (Some id) = wrong s

abbrev pub misplaced : List Entry → Named → Refusal
misplaced names (Imaginary spot) = wrong (spelled_of (Imaginary spot))
misplaced names (Declared s) = misplaced_at s (lookup names s.name)

-- `d_`, at this spot
abbrev pub delta_at : Spot → Spelled
delta_at spot = record { name = codes "d_"; spot = spot }

-- The refusal of the first name of pieces, or this, where there is none. The name of a power is passed over: it is a wildcard
-- of the pattern, and stands where it may.
unfoldable pub first_misplaced : List Entry → List Piece → Refusal → Refusal
first_misplaced names [] none = none
first_misplaced names (written.Name link n ∷ rest) none = misplaced names n
first_misplaced names (written.Dot link n ∷ rest) none = misplaced names n
first_misplaced names (written.Call link n ∷ rest) none = misplaced names n
first_misplaced names (written.Delta link spot ∷ rest) none = wrong (delta_at spot)
first_misplaced names (_ ∷ rest) none = first_misplaced names rest none

abbrev pub only_end : List Entry → Named → syntax.Sum → Option syntax.Entry → Result ends.End Refusal
only_end names n s (Some e) = end names e
only_end names n s None = Err (first_misplaced names (syntax.pieces_of_sum s) (wrong (spelled_of n)))

-- What stands in the parentheses of a vector. Another number of arguments than one is refused at the vector; an argument
-- that isn't one name or one number at the first name in it, or at the vector where it has none.
abbrev pub component_end : List Entry → Named → syntax.Arguments → Result ends.End Refusal
component_end names n (syntax.argument (syntax.expression s)) = only_end names n s (alone s)
component_end names n (syntax.argument (syntax.field f)) = wrong_kind (spelled_of n)
component_end names n (syntax.further args a) = wrong_kind (spelled_of n)

abbrev pub call_by : List Entry → Named → syntax.Arguments → Result tree.Arguments Refusal → Option Power → heads.Head → Result tree.Factor Refusal
call_by names n args given power (a_head.Function id is_commuting) =
    given >>= (λ all. size_within largest_power power >>= (λ size. Ok (tree.function id is_commuting all size)))
call_by names n args given power (a_head.Vector id) = component_end names n args >>= (λ e. linked_to (an_end.Vector id) e power)

-- a name with arguments, where these are what a function has
abbrev pub call : List Entry → Named → syntax.Arguments → Result tree.Arguments Refusal → Option Power → Result tree.Factor Refusal
call names n args given power = head names n >>= call_by names n args given power

abbrev pub empty_call_by : Named → Option Power → heads.Head → Result tree.Factor Refusal
empty_call_by n power (a_head.Function id is_commuting) = size_within largest_power power >>= (λ size. Ok (tree.function id is_commuting tree.empty size))
empty_call_by n power (a_head.Vector id) = wrong_kind (spelled_of n)

-- a name with nothing in its parentheses
abbrev pub empty_call : List Entry → Named → Option Power → Result tree.Factor Refusal
empty_call names n power = head names n >>= empty_call_by n power

-- an argument that is an index alone or a vector alone
abbrev pub lone_of : ℕ → Option kinds.Kind → Option tree.Argument
lone_of id (Some (Index d)) = Some (tree.index (by_index.Declared id))
lone_of id (Some Vector) = Some (tree.vector id)
lone_of id _ = None

abbrev pub lone_at : List Entry → Option ℕ → Option tree.Argument
lone_at names None = None
lone_at names (Some id) = lone_of id (kind_at names id)

abbrev pub lone_named : List Entry → Named → Option tree.Argument
lone_named names (Imaginary spot) = None
lone_named names (Declared s) = lone_at names (lookup names s.name)

abbrev pub lone : List Entry → Option syntax.Entry → Option tree.Argument
lone names None = None
lone names (Some (syntax.number_entry n)) = None
lone names (Some (syntax.name_entry n)) = lone_named names (syntax.name_of n)

-- an argument of a function: an index alone, a vector alone, or else an expression
abbrev pub argument : Option tree.Argument → Result tree.Sum Refusal → Result tree.Argument Refusal
argument (Some a) expression = Ok a
argument None expression = expression >>= (λ s. Ok (tree.expression s))

-- no expression's name stands in an argument
abbrev pub none_stands : ℕ → Bool
none_stands id = false

-- ---- powers that are names

-- the name of such a power: a symbol
abbrev pub symbol_of : Spelled → ℕ → kinds.Kind → Result ℕ Refusal
symbol_of s id Symbol = Ok id
symbol_of s id _ = wrong_kind s

abbrev pub symbol_named : List Entry → Named → Result ℕ Refusal
symbol_named names (Imaginary spot) = wrong_kind (spelled_of (Imaginary spot))
symbol_named names (Declared s) = found names s >>= (λ f. symbol_of s f.id f.kind)

abbrev pub number_base : Number → Result tree.Base Refusal
number_base n = value_within largest_number n >>= (λ value. Ok (tree.number_base value))

abbrev pub symbol_base : Bool → ℕ → tree.Base
symbol_base is_wild id = if is_wild then tree.wild_base id else tree.symbol_base id

-- what has no inverse stands after `/` under no power
abbrev pub base_alone : Bool → Spelled → tree.Base → Result tree.Base Refusal
base_alone is_over s b = if is_over then wrong_kind s else Ok b

abbrev pub base_by_kind : Known → Bool → Spelled → ℕ → kinds.Kind → Result tree.Base Refusal
base_by_kind known is_over s id Symbol = Ok (symbol_base (is_wildcard known id) id)
base_by_kind known is_over s id Function = base_alone is_over s (tree.function_base id false tree.empty)
base_by_kind known is_over s id CommutingFunction = base_alone is_over s (tree.function_base id true tree.empty)
base_by_kind known is_over s id _ = wrong_kind s

abbrev pub name_base : List Entry → Known → Bool → Named → Result tree.Base Refusal
name_base names known is_over (Imaginary spot) = base_alone is_over (spelled_of (Imaginary spot)) tree.imaginary_base
name_base names known is_over (Declared s) = found names s >>= (λ f. base_by_kind known is_over s f.id f.kind)

abbrev pub dot_base : List Entry → Named → Named → Result tree.Base Refusal
dot_base names p q = vector names p >>= (λ left. vector names q >>= (λ right. Ok (tree.dot_base left right)))

-- The dot product that `p(q)` and `d_(p,q)` are. Below such a power it stands in parentheses, so that the power has the limits
-- of one behind parentheses, and not those of a power of `p.q`.
abbrev pub enclosed_dot : ℕ → ℕ → tree.Base
enclosed_dot p q = tree.parenthesis_base (tree.first false (tree.one (tree.dot p q (pos 1))))

-- an index and an end, and two ends, as below such a power
abbrev pub linked_index_base : indices.Index → ends.End → tree.Base
linked_index_base i (an_end.Vector p) = tree.component_base (record { vector = p; index = i })
linked_index_base i (an_end.Fixed n) = tree.delta_base i (by_index.Fixed n)
linked_index_base i (an_end.Index j) = tree.delta_base i (by_index.Declared j)

abbrev pub linked_base : ends.End → ends.End → tree.Base
linked_base (an_end.Vector p) (an_end.Vector q) = enclosed_dot p q
linked_base (an_end.Vector p) (an_end.Fixed n) = tree.component_base (record { vector = p; index = by_index.Fixed n })
linked_base (an_end.Vector p) (an_end.Index i) = tree.component_base (record { vector = p; index = by_index.Declared i })
linked_base (an_end.Fixed n) e = linked_index_base (by_index.Fixed n) e
linked_base (an_end.Index i) e = linked_index_base (by_index.Declared i) e

abbrev pub delta_base : List Entry → syntax.Entry → syntax.Entry → Result tree.Base Refusal
delta_base names a b = end names a >>= (λ first. end names b >>= (λ second. Ok (linked_base first second)))

abbrev pub empty_call_base : Named → heads.Head → Result tree.Base Refusal
empty_call_base n (a_head.Function id is_commuting) = Ok (tree.function_base id is_commuting tree.empty)
empty_call_base n (a_head.Vector id) = wrong_kind (spelled_of n)

abbrev pub call_base : List Entry → Named → syntax.Arguments → Result tree.Arguments Refusal → heads.Head → Result tree.Base Refusal
call_base names n args given (a_head.Function id is_commuting) = given >>= (λ all. Ok (tree.function_base id is_commuting all))
call_base names n args given (a_head.Vector id) = component_end names n args >>= (λ e. Ok (linked_base (an_end.Vector id) e))

-- ---- trees

-- where these names are declared, these expressions may be named, and this is known of a pattern
abbrev mutual
  pub sum : List Entry → (ℕ → Bool) → Known → syntax.Sum → Result tree.Sum Refusal
  sum names stands known (syntax.first sign p) = product names stands known p >>= (λ q. Ok (tree.first (is_minus sign) q))
  sum names stands known (syntax.more s sign p) =
      sum names stands known s >>= (λ t. product names stands known p >>= (λ q. Ok (tree.more t (is_minus (Some sign)) q)))

  pub product : List Entry → (ℕ → Bool) → Known → syntax.Product → Result tree.Product Refusal
  product names stands known (syntax.one f) = factor names stands known false f >>= (λ g. Ok (tree.one g))
  product names stands known (syntax.times p f) =
      product names stands known p >>= (λ q. factor names stands known false f >>= (λ g. Ok (tree.times q g)))
  product names stands known (syntax.over p f) =
      product names stands known p >>= (λ q. factor names stands known true f >>= (λ g. Ok (tree.times q g)))

  -- a factor, which stands after `/` or not
  pub factor : List Entry → (ℕ → Bool) → Known → Bool → syntax.Factor → Result tree.Factor Refusal
  factor names stands known is_over (syntax.factor b power) = to_power names stands known is_over b (counted power)
  factor names stands known is_over (syntax.raised b sign n) =
      base names stands known is_over b >>= (λ x. symbol_named names (syntax.name_of n) >>= (λ id. Ok (tree.raised x is_over (is_minus sign) id)))

  -- a base to a power that is a number
  pub to_power : List Entry → (ℕ → Bool) → Known → Bool → syntax.Base → Option Power → Result tree.Factor Refusal
  to_power names stands known is_over (syntax.number n) power = number is_over n power
  to_power names stands known is_over (syntax.name n) power = name names stands known is_over (syntax.name_of n) power
  to_power names stands known is_over (syntax.dot p q) power = dot names is_over (syntax.name_of p) (syntax.name_of q) power
  to_power names stands known is_over (syntax.delta spot a b) power = delta names a b power
  to_power names stands known is_over (syntax.empty_call n) power = empty_call names (syntax.name_of n) power
  to_power names stands known is_over (syntax.call n args) power = call names (syntax.name_of n) args (arguments names known args) power
  to_power names stands known is_over (syntax.parenthesis s) power =
      sum names stands known s >>= (λ t. size_within largest_power power >>= (λ size. Ok (tree.parenthesis t size)))

  -- A base to a power that is a name, so of which isn't known what it will be.
  pub base : List Entry → (ℕ → Bool) → Known → Bool → syntax.Base → Result tree.Base Refusal
  base names stands known is_over (syntax.number n) = number_base n
  base names stands known is_over (syntax.name n) = name_base names known is_over (syntax.name_of n)
  base names stands known is_over (syntax.dot p q) = dot_base names (syntax.name_of p) (syntax.name_of q)
  base names stands known is_over (syntax.delta spot a b) = delta_base names a b
  base names stands known is_over (syntax.empty_call n) = head names (syntax.name_of n) >>= empty_call_base (syntax.name_of n)
  base names stands known is_over (syntax.call n args) =
      head names (syntax.name_of n) >>= call_base names (syntax.name_of n) args (arguments names known args)
  base names stands known is_over (syntax.parenthesis s) = sum names stands known s >>= (λ t. Ok (tree.parenthesis_base t))

  pub arguments : List Entry → Known → syntax.Arguments → Result tree.Arguments Refusal
  arguments names known (syntax.argument a) = one_argument names known a >>= (λ x. Ok (tree.further tree.empty x))
  arguments names known (syntax.further args a) =
      arguments names known args >>= (λ before. one_argument names known a >>= (λ x. Ok (tree.further before x)))

  pub one_argument : List Entry → Known → syntax.Argument → Result tree.Argument Refusal
  one_argument names known (syntax.expression s) = argument (lone names (alone s)) (sum names none_stands known s)
  one_argument names known (syntax.field n) = Ok (tree.field (field_number known.fields n.name))

abbrev pub pieces_from : List Entry → (ℕ → Bool) → Known → Option syntax.Sum → Result (List resolved.Piece) Refusal
pieces_from names stands known None = Ok []
pieces_from names stands known (Some s) = sum names stands known s >>= (λ t. Ok (tree.pieces_of_sum t))

-- the pieces of the tree that has these pieces, as each lawful right side has one
unfoldable pub right_side : List Entry → (ℕ → Bool) → Known → List Piece → Result (List resolved.Piece) Refusal
right_side names stands known list = pieces_from names stands known (tree_of list)
