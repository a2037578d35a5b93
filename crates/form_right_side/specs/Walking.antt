-- Going through the pieces of a right side from the front, piece by piece. That this gives what RightSide says is proved.
use Rattle.std.specs.Prelude.{◌≡◌, ℕ, ◌+◌, ◌-◌, Bool, true, false, ◌==◌, ◌&&◌, if◌then◌else◌, List, [], ◌∷◌, ◌++◌, length, take, Option, Some, None, option_map, Result, Ok, Err}
use Rattle.form_names.specs.Names.{Entry}
use Rattle.form_ast.specs.declared.expr.Link.{Link}
use Rattle.form_ast.specs.declared.expr.Link.TheVariants as links
use Rattle.form_ast.specs.declared.expr.Named.{Named}
use Rattle.form_ast.specs.declared.expr.Sign.{Sign}
use Rattle.form_ast.specs.Syntax as syntax
use Rattle.form_number.specs.Numbers.{capped}
use Rattle.form_ast.specs.declared.expr.Piece.{Piece}
use Rattle.form_ast.specs.declared.expr.Piece.TheVariants as written
use Rattle.form_tree.specs.declared.tree.Link as resolved_link
use Rattle.form_tree.specs.declared.tree.Link.TheVariants as resolved_links
use Rattle.form_tree.specs.declared.tree.Piece as resolved
use Rattle.form_tree.specs.declared.tree.Piece.TheVariants as pieces
use Rattle.form_tree.specs.declared.tree.Base as bases
use Rattle.form_tree.specs.declared.tree.Base.TheVariants as by_base
use Rattle.form_tree.specs.declared.tree.Exponent.{Exponent}
use Rattle.form_tree.specs.Tree as tree
use Rattle.form_right_side.specs.declared.resolved.End as ends
use Rattle.form_right_side.specs.declared.resolved.End.TheVariants as an_end
use Rattle.form_right_side.specs.declared.resolved.Linked as linked_ends
use Rattle.form_right_side.specs.declared.resolved.Linked.TheVariants as a_link
use Rattle.form_right_side.specs.declared.resolved.Head as heads
use Rattle.form_right_side.specs.declared.resolved.Head.TheVariants as a_head
use Rattle.form_right_side.specs.declared.powers.Power.{Power}
use Rattle.form_right_side.specs.declared.walk.Place.{Place}
use Rattle.form_right_side.specs.declared.walk.Place.TheVariants as places
use Rattle.form_right_side.specs.declared.walk.Walk as walks
use Rattle.form_right_side.specs.Refusal.{Refusal, ◌>>=◌}
use Rattle.form_right_side.specs.RightSide.{Known, field_number, is_minus, symbol_named, number_base, name_base, linked_base, enclosed_dot, largest_exponent, largest_power, size_within, exponent, spelled_of, wrong, wrong_kind, misplaced, delta_at, number, name, vector, end, linked_to, head, lone, nothing_known}

-- how a factor stands to what is before it, where a division is left to its power
abbrev pub link_of : Link → resolved_link.Link
link_of links.First = resolved_links.Plus
link_of links.Plus = resolved_links.Plus
link_of links.Minus = resolved_links.Minus
link_of links.Times = resolved_links.Times
link_of links.Over = resolved_links.Times

abbrev pub is_over : Link → Bool
is_over links.First = false
is_over links.Plus = false
is_over links.Minus = false
is_over links.Times = false
is_over links.Over = true

-- what was made, where the walk stands, and in the arguments of how many functions
pub record Walk : Type 0 where
  pub pieces : List resolved.Piece
  pub place : Place
  pub calls : ℕ

abbrev pub walk_of : walks.Walk → Walk
walk_of w = record { pieces = w.pieces.items; place = w.place; calls = w.calls }

abbrev pub at : List resolved.Piece → Place → ℕ → Walk
at pieces place calls = record { pieces = pieces; place = place; calls = calls }

-- the pieces from before are still there, in front
abbrev pub AreKept : Walk → Walk → Type 0
AreKept before after = take (length before.pieces) after.pieces ≡ before.pieces

abbrev pub moved : Walk → Place → Walk
moved w place = at w.pieces place w.calls

abbrev pub with_factor : Walk → Link → tree.Factor → Walk
with_factor w link f = at (w.pieces ++ tree.pieces_of_factor (link_of link) f) places.Sum w.calls

abbrev pub adds : Walk → Link → Result tree.Factor Refusal → Result Walk Refusal
adds w link r = r >>= (λ f. Ok (with_factor w link f))

-- an expression may be named outside arguments
abbrev pub may_name : ℕ → (ℕ → Bool) → ℕ → Bool
may_name calls stands id = (calls == 0) && stands id

-- the power of the factor that ends before these, where it has one
abbrev pub power_of : Piece → Option Power
power_of (written.Raised is_parenthesized sign n) = Some (record { sign = sign; number = capped n })
power_of _ = None

abbrev pub power_at : List Piece → Option Power
power_at [] = None
power_at (p ∷ rest) = power_of p

-- such a power that is a name, with its sign
abbrev pub name_power_of : Piece → Option (Option Sign × Named)
name_power_of (written.RaisedByName sign n) = Some (sign, n)
name_power_of _ = None

abbrev pub name_power_at : List Piece → Option (Option Sign × Named)
name_power_at [] = None
name_power_at (p ∷ rest) = name_power_of p

-- what such a power is, behind what stands after `/` or not
abbrev pub exponent_by : List Entry → Bool → Option Sign × Named → Result Exponent Refusal
exponent_by names is_over by = symbol_named names by.1 >>= (λ id. Ok (tree.exponent is_over (is_minus by.0) id))

-- a base that is one piece
abbrev pub base_of : bases.Base → tree.Base
base_of (by_base.Number value) = tree.number_base value
base_of (by_base.Symbol id) = tree.symbol_base id
base_of (by_base.Wild id) = tree.wild_base id
base_of (by_base.Dot left right) = tree.dot_base left right
base_of by_base.Imaginary = tree.imaginary_base
base_of (by_base.Component c) = tree.component_base c
base_of (by_base.Delta i j) = tree.delta_base i j

-- two ends below such a power
abbrev pub linked_of : linked_ends.Linked → tree.Base
linked_of (a_link.Piece base) = base_of base
linked_of (a_link.Dot left right) = enclosed_dot left right

-- a base to a power that is a name
abbrev pub raised : List Entry → Bool → Option Sign × Named → Result tree.Base Refusal → Result tree.Factor Refusal
raised names is_over by b = b >>= (λ x. symbol_named names by.1 >>= (λ id. Ok (tree.raised x is_over (is_minus by.0) id)))

-- a factor whose power is a name, where it has such a one, or a number
abbrev pub by_name : List Entry → Bool → Option (Option Sign × Named) → Result tree.Base Refusal → Result tree.Factor Refusal → Result tree.Factor Refusal
by_name names is_over None b f = f
by_name names is_over (Some by) b f = raised names is_over by b

abbrev pub by_power : List Entry → Bool → List Piece → Result tree.Base Refusal → Result tree.Factor Refusal → Result tree.Factor Refusal
by_power names is_over rest b f = by_name names is_over (name_power_at rest) b f

-- ---- arguments

abbrev pub ends_argument : List Piece → Bool
ends_argument (written.Comma ∷ rest) = true
ends_argument (written.EndOfCall ∷ rest) = true
ends_argument _ = false

-- a piece that is a whole argument, if that ends behind it, without a power
abbrev pub alone_piece : Piece → Option syntax.Entry
alone_piece (written.Number links.First n) = Some (syntax.number_entry n)
alone_piece (written.Name links.First n) = Some (syntax.name_entry (syntax.named n))
alone_piece _ = None

abbrev pub alone_before : List Piece → Piece → Option syntax.Entry
alone_before rest p = if ends_argument rest then alone_piece p else None

abbrev pub alone_at : List Piece → Option syntax.Entry
alone_at [] = None
alone_at (p ∷ rest) = alone_before rest p

-- up to the end of these arguments stands no comma that parts them; so many calls in them are open
unfoldable pub is_single : ℕ → List Piece → Bool
is_single opened [] = false
is_single opened (written.Call link n ∷ rest) = is_single (opened + 1) rest
is_single opened (written.Comma ∷ rest) = if opened == 0 then false else is_single opened rest
is_single opened (written.EndOfCall ∷ rest) = if opened == 0 then true else is_single (opened - 1) rest
is_single opened (_ ∷ rest) = is_single opened rest

-- the first name up to the end of the first call, that of a power passed over
unfoldable pub misplaced_to_end : List Entry → List Piece → Refusal → Refusal
misplaced_to_end names [] none = none
misplaced_to_end names (written.Name link n ∷ rest) none = misplaced names n
misplaced_to_end names (written.Dot link n ∷ rest) none = misplaced names n
misplaced_to_end names (written.Call link n ∷ rest) none = misplaced names n
misplaced_to_end names (written.Delta link spot ∷ rest) none = wrong (delta_at spot)
misplaced_to_end names (written.EndOfCall ∷ rest) none = none
misplaced_to_end names (_ ∷ rest) none = misplaced_to_end names rest none

-- ---- one piece further

abbrev pub component_begun : List Entry → Walk → Link → Named → ℕ → List Piece → Option syntax.Entry → Result Walk Refusal
component_begun names w link n id rest (Some e) = Ok (moved w (places.Vector link id))
component_begun names w link n id rest None = Err (misplaced_to_end names rest (wrong (spelled_of n)))

abbrev pub called_by : List Entry → Walk → Link → Named → List Piece → heads.Head → Result Walk Refusal
called_by names w link n rest (a_head.Function id is_commuting) =
    Ok (at (w.pieces ++ pieces.Function (link_of link) id is_commuting ∷ []) places.Argument (w.calls + 1))
called_by names w link n rest (a_head.Vector id) =
    if is_single 0 rest then component_begun names w link n id rest (alone_at rest) else wrong_kind (spelled_of n)

abbrev pub called : List Entry → Walk → Link → Named → List Piece → Result Walk Refusal
called names w link n rest = head names n >>= called_by names w link n rest

-- what ends with a power, which is a number or a name
abbrev pub ended_by : List Entry → List Piece → (ℕ → resolved.Piece) → (Exponent → resolved.Piece) → Option (Option Sign × Named) → Result resolved.Piece Refusal
ended_by names rest ends raises None = size_within largest_power (power_at rest) >>= (λ size. Ok (ends size))
ended_by names rest ends raises (Some by) = exponent_by names false by >>= (λ e. Ok (raises e))

abbrev pub end_of_function : List Entry → List Piece → Result resolved.Piece Refusal
end_of_function names rest = ended_by names rest (λ size. pieces.EndOfFunction size) (λ e. pieces.EndOfRaisedFunction e) (name_power_at rest)

abbrev pub end_of_parenthesis : List Entry → List Piece → Result resolved.Piece Refusal
end_of_parenthesis names rest = ended_by names rest (λ size. pieces.Close size) (λ e. pieces.CloseRaised e) (name_power_at rest)

-- the arguments of a function end
abbrev pub call_ended : List Entry → Walk → List Piece → Result Walk Refusal
call_ended names w rest = end_of_function names rest >>= (λ p. Ok (at (w.pieces ++ p ∷ []) places.Sum (w.calls - 1)))

-- a sum in parentheses ends
abbrev pub closed : List Entry → Walk → List Piece → Result Walk Refusal
closed names w rest = end_of_parenthesis names rest >>= (λ p. Ok (at (w.pieces ++ p ∷ []) places.Sum w.calls))

-- an argument that is an expression ends
abbrev pub argument_ended : Walk → Walk
argument_ended w = at (w.pieces ++ pieces.EndOfArgument ∷ []) w.place w.calls

abbrev pub in_sum : List Entry → (ℕ → Bool) → Known → Walk → Piece → List Piece → Result Walk Refusal
in_sum names stands known w (written.Number link n) rest = adds w link (by_power names (is_over link) rest (number_base n) (number (is_over link) n (power_at rest)))
in_sum names stands known w (written.Name link n) rest =
    adds w link (by_power names (is_over link) rest (name_base names known (is_over link) n) (name names (may_name w.calls stands) known (is_over link) n (power_at rest)))
in_sum names stands known w (written.Dot link p) rest = vector names p >>= (λ left. Ok (moved w (places.Dot link left)))
in_sum names stands known w (written.Delta link spot) rest = Ok (moved w (places.Delta link))
in_sum names stands known w (written.Call link n) rest = called names w link n rest
in_sum names stands known w written.Comma rest = Ok (moved (argument_ended w) places.Argument)
in_sum names stands known w written.EndOfCall rest = call_ended names (argument_ended w) rest
in_sum names stands known w (written.Open link) rest = Ok (at (w.pieces ++ pieces.Open (link_of link) ∷ []) places.Sum w.calls)
in_sum names stands known w written.Close rest = closed names w rest
-- a power was looked at where its factor ends
in_sum names stands known w _ rest = Ok w

abbrev pub argument_begun : List Entry → (ℕ → Bool) → Known → Walk → Piece → List Piece → Option tree.Argument → Result Walk Refusal
argument_begun names stands known w p rest (Some a) = Ok (at (w.pieces ++ tree.pieces_of_argument a) places.Behind w.calls)
argument_begun names stands known w p rest None = in_sum names stands known (at (w.pieces ++ pieces.Argument ∷ []) places.Sum w.calls) p rest

-- a piece is this argument, where it is one
abbrev pub IsLone : Option resolved.Piece → Option tree.Argument → Type 0
IsLone None a = a ≡ None
IsLone (Some p) a = Some (p ∷ []) ≡ option_map tree.pieces_of_argument a

-- the `)` that ends arguments
abbrev pub ends_call : Piece → Bool
ends_call written.EndOfCall = true
ends_call _ = false

-- a field, which is a whole argument
abbrev pub field_of : Known → Piece → Option ℕ
field_of known (written.Field n) = Some (field_number known.fields n.name)
field_of known _ = None

abbrev pub field_or_argument : List Entry → (ℕ → Bool) → Known → Walk → Piece → List Piece → Option ℕ → Result Walk Refusal
field_or_argument names stands known w p rest (Some n) = Ok (at (w.pieces ++ pieces.Field n ∷ []) places.Behind w.calls)
field_or_argument names stands known w p rest None = argument_begun names stands known w p rest (lone names (alone_before rest p))

-- where an argument may begin
abbrev pub in_arguments : List Entry → (ℕ → Bool) → Known → Walk → Piece → List Piece → Result Walk Refusal
in_arguments names stands known w p rest =
    if ends_call p then call_ended names w rest else field_or_argument names stands known w p rest (field_of known p)

-- behind an argument that is an index or a vector alone
abbrev pub behind_argument : List Entry → Walk → Piece → List Piece → Result Walk Refusal
behind_argument names w written.Comma rest = Ok (moved w places.Argument)
behind_argument names w written.EndOfCall rest = call_ended names w rest
behind_argument names w _ rest = Ok w

abbrev pub dot_to : Bool → ℕ → ℕ → Option Power → Result tree.Factor Refusal
dot_to over left right power = size_within largest_exponent power >>= (λ size. Ok (tree.dot left right (exponent over power size)))

abbrev pub dot_ended : List Entry → Walk → Link → ℕ → Piece → List Piece → Result Walk Refusal
dot_ended names w link left (written.EndOfDot q) rest =
    vector names q >>= (λ right. adds w link (by_power names (is_over link) rest (Ok (tree.dot_base left right)) (dot_to (is_over link) left right (power_at rest))))
dot_ended names w link left _ rest = Ok w

-- what a name or a number is that stands alone in the parentheses of a vector or of `d_`
abbrev pub alone_end : List Entry → Option syntax.Entry → Result (Option ends.End) Refusal
alone_end names None = Ok None
alone_end names (Some e) = end names e >>= (λ x. Ok (Some x))

-- a piece that is an argument of `d_`
abbrev pub entry_piece : Piece → Option syntax.Entry
entry_piece (written.EntryName n) = Some (syntax.name_entry (syntax.named n))
entry_piece (written.EntryNumber n) = Some (syntax.number_entry n)
entry_piece _ = None

abbrev pub first_given : Walk → Link → Option ends.End → Walk
first_given w link (Some x) = moved w (places.SecondEntry link x)
first_given w link None = w

abbrev pub first_taken : List Entry → Walk → Link → Piece → Result Walk Refusal
first_taken names w link p = alone_end names (entry_piece p) >>= (λ e. Ok (first_given w link e))

abbrev pub second_given : Walk → Link → ends.End → Option ends.End → Walk
second_given w link first (Some x) = moved w (places.EndOfDelta link first x)
second_given w link first None = w

abbrev pub second_taken : List Entry → Walk → Link → ends.End → Piece → Result Walk Refusal
second_taken names w link first p = alone_end names (entry_piece p) >>= (λ e. Ok (second_given w link first e))

abbrev pub delta_ended : List Entry → Walk → Link → ends.End → ends.End → Piece → List Piece → Result Walk Refusal
delta_ended names w link first second written.EndOfDelta rest = adds w link (by_power names (is_over link) rest (Ok (linked_base first second)) (linked_to first second (power_at rest)))
delta_ended names w link first second _ rest = Ok w

abbrev pub component_given : Walk → Link → ℕ → Option ends.End → Walk
component_given w link id (Some x) = moved w (places.Component link id x)
component_given w link id None = w

abbrev pub component_taken : List Entry → Walk → Link → ℕ → Piece → Result Walk Refusal
component_taken names w link id p = alone_end names (alone_piece p) >>= (λ e. Ok (component_given w link id e))

abbrev pub component_ended : List Entry → Walk → Link → ℕ → ends.End → Piece → List Piece → Result Walk Refusal
component_ended names w link id x written.EndOfCall rest = adds w link (by_power names (is_over link) rest (Ok (linked_base (an_end.Vector id) x)) (linked_to (an_end.Vector id) x (power_at rest)))
component_ended names w link id x _ rest = Ok w

abbrev pub taken_at : List Entry → (ℕ → Bool) → Known → Walk → Piece → List Piece → Place → Result Walk Refusal
taken_at names stands known w p rest places.Sum = in_sum names stands known w p rest
taken_at names stands known w p rest places.Argument = in_arguments names stands known w p rest
taken_at names stands known w p rest places.Behind = behind_argument names w p rest
taken_at names stands known w p rest (places.Dot link left) = dot_ended names w link left p rest
taken_at names stands known w p rest (places.Delta link) = first_taken names w link p
taken_at names stands known w p rest (places.SecondEntry link first) = second_taken names w link first p
taken_at names stands known w p rest (places.EndOfDelta link first second) = delta_ended names w link first second p rest
taken_at names stands known w p rest (places.Vector link id) = component_taken names w link id p
taken_at names stands known w p rest (places.Component link id x) = component_ended names w link id x p rest

abbrev pub taken : List Entry → (ℕ → Bool) → Known → Walk → Piece → List Piece → Result Walk Refusal
taken names stands known w p rest = taken_at names stands known w p rest w.place

-- one piece further on a short way, where it was gone; otherwise nothing is done
abbrev pub IfPlain : Bool → Result Walk Refusal → walks.Walk → walks.Walk → Type 0
IfPlain true next before after = next ≡ Ok (walk_of after)
IfPlain false next before after = after ≡ before

-- all pieces
unfoldable pub walked : List Entry → (ℕ → Bool) → Known → Walk → List Piece → Result Walk Refusal
walked names stands known w [] = Ok w
walked names stands known w (p ∷ rest) = taken names stands known w p rest >>= (λ next. walked names stands known next rest)

-- ---- an argument of a pattern, without wildcards

abbrev pub alone_last : List Piece → Piece → Option syntax.Entry
alone_last [] p = alone_piece p
alone_last (q ∷ others) p = None

abbrev pub alone_list : List Piece → Option syntax.Entry
alone_list [] = None
alone_list (p ∷ rest) = alone_last rest p

abbrev pub argument_by : List Entry → (ℕ → Bool) → List Piece → Option tree.Argument → Result (List resolved.Piece) Refusal
argument_by names stands list (Some a) = Ok (tree.pieces_of_argument a)
argument_by names stands list None =
    walked names stands nothing_known (at (pieces.Argument ∷ []) places.Sum 1) list >>= (λ w. Ok (w.pieces ++ pieces.EndOfArgument ∷ []))

abbrev pub argument_walked : List Entry → (ℕ → Bool) → List Piece → Result (List resolved.Piece) Refusal
argument_walked names stands list = argument_by names stands list (lone names (alone_list list))
