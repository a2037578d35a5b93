-- The commonest pieces of a right side, those that are taken on a short way.
use Rattle.std.specs.Prelude.{ℕ, Bool, true, false, ◌&&◌, not, nat_le, List, [], ◌∷◌, Option, Some, None, Result, Ok, Err}
use Rattle.form_names.specs.declared.kind.Kind as kinds
use Rattle.form_names.specs.declared.kind.Kind.TheVariants.{Symbol}
use Rattle.form_names.specs.Names.{Entry, lookup, kind_at}
use Rattle.form_number.specs.declared.number.Number.{Number}
use Rattle.form_ast.specs.declared.expr.Spelled.{Spelled}
use Rattle.form_ast.specs.declared.expr.Named.{Named}
use Rattle.form_ast.specs.declared.expr.Named.TheVariants.{Declared, Imaginary}
use Rattle.form_ast.specs.declared.expr.Piece.{Piece}
use Rattle.form_ast.specs.declared.expr.Piece.TheVariants as written
use Rattle.form_right_side.specs.declared.resolved.Head as heads
use Rattle.form_right_side.specs.declared.resolved.Head.TheVariants as a_head
use Rattle.form_right_side.specs.declared.walk.Place.{Place}
use Rattle.form_right_side.specs.declared.walk.Place.TheVariants as places
use Rattle.form_right_side.specs.Refusal.{Refusal}
use Rattle.form_right_side.specs.RightSide.{Known, largest_number, largest_exponent, largest_power, is_wildcard, head}

-- no power is written behind a factor, or one that is a number of at most so much
abbrev pub is_plain_power : ℕ → Piece → Bool
is_plain_power most (written.Raised is_parenthesized sign n) = nat_le n.value most
is_plain_power most (written.RaisedByName sign n) = false
is_plain_power most _ = true

abbrev pub has_plain_power : ℕ → List Piece → Bool
has_plain_power most [] = true
has_plain_power most (p ∷ rest) = is_plain_power most p

-- a number that is not too large, with such a power
abbrev pub is_plain_number : Number → List Piece → Bool
is_plain_number n rest = nat_le n.value largest_number && has_plain_power largest_power rest

-- a name is that of a symbol
abbrev pub is_symbol_kind : Option kinds.Kind → Bool
is_symbol_kind (Some Symbol) = true
is_symbol_kind _ = false

abbrev pub is_symbol_at : List Entry → Option ℕ → Bool
is_symbol_at names None = false
is_symbol_at names (Some id) = is_symbol_kind (kind_at names id)

abbrev pub is_symbol : List Entry → Spelled → Bool
is_symbol names s = is_symbol_at names (lookup names s.name)

-- what a name stands for is a wildcard
abbrev pub is_wildcard_at : Known → Option ℕ → Bool
is_wildcard_at known None = false
is_wildcard_at known (Some id) = is_wildcard known id

-- a symbol that is no wildcard, with such a power
abbrev pub is_plain_name : List Entry → Known → Named → List Piece → Bool
is_plain_name names known (Imaginary spot) rest = false
is_plain_name names known (Declared s) rest = is_symbol names s && (has_plain_power largest_exponent rest && not (is_wildcard_at known (lookup names s.name)))

-- a factor that is one piece
abbrev pub is_plain_factor : List Entry → Known → Piece → List Piece → Bool
is_plain_factor names known (written.Number link n) rest = is_plain_number n rest
is_plain_factor names known (written.Name link n) rest = is_plain_name names known n rest
is_plain_factor names known _ rest = false

-- what begins is a function, commuting or not, and no vector
abbrev pub is_function : Result heads.Head Refusal → Bool
is_function (Ok (a_head.Function id is_commuting)) = true
is_function (Ok (a_head.Vector id)) = false
is_function (Err e) = false

abbrev pub is_plain_call : List Entry → Named → Bool
is_plain_call names n = is_function (head names n)

-- a power was looked at where its factor ends
abbrev pub is_plain_in_sum : List Entry → Known → Piece → List Piece → Bool
is_plain_in_sum names known (written.Raised is_parenthesized sign n) rest = true
is_plain_in_sum names known (written.Call link n) rest = is_plain_call names n
is_plain_in_sum names known written.Comma rest = true
is_plain_in_sum names known written.EndOfCall rest = has_plain_power largest_power rest
is_plain_in_sum names known p rest = is_plain_factor names known p rest

-- the next piece is one of these, by where a walk stands
abbrev pub is_plain : List Entry → Known → Place → Piece → List Piece → Bool
is_plain names known places.Sum p rest = is_plain_in_sum names known p rest
is_plain names known places.Argument p rest = is_plain_factor names known p rest
is_plain names known _ p rest = false
