-- The tree of pieces, built from the front. That it is the tree whose pieces they are is proved.
use Rattle.std.specs.Prelude.{List, [], ◌∷◌, ◌++◌, Option, Some, None, option_map, option_and_then}
use Rattle.form_base.specs.declared.spot.Spot.{Spot}
use Rattle.form_ast.specs.declared.expr.Sign.{Sign}
use Rattle.form_ast.specs.declared.expr.Sign.TheVariants.{Plus, Minus}
use Rattle.form_ast.specs.declared.expr.Link.{Link}
use Rattle.form_ast.specs.declared.expr.Link.TheVariants as links
use Rattle.form_ast.specs.declared.expr.Named.TheVariants.{Declared}
use Rattle.form_ast.specs.declared.expr.Spelled.{Spelled}
use Rattle.form_ast.specs.declared.expr.Restriction.{Restriction}
use Rattle.form_ast.specs.declared.expr.Power.{Power}
use Rattle.form_ast.specs.declared.expr.Piece.{Piece}
use Rattle.form_ast.specs.declared.expr.Piece.TheVariants as pieces
use Rattle.form_ast.specs.Syntax.{Label, named, wildcard, Entry, name_entry, number_entry, Sum, first, more, Product, one, times, over, Factor, factor, raised, Base, number, name, dot, delta, empty_call, call, parenthesis, Arguments, argument, further, Argument, expression, field}

-- what is before a product: its sign alone, where it is the first, or a sum and its sign
pub data Lead : Type 0 where
  start : Option Sign → Lead
  after : Sum → Sign → Lead

-- a sum that is begun: nothing yet, or what is before its last product, and this; or a field, which is a whole argument
pub data Begun : Type 0 where
  nothing : Begun
  begun : Lead → Product → Begun
  a_field : Spelled → Begun

-- what is begun of a factor: a parenthesis, a dot product, `d_` with its arguments so far, or a call with the arguments
-- that are complete
pub data Opened : Type 0 where
  in_parenthesis : Opened
  in_dot : Label → Opened
  in_delta : Spot → List Entry → Opened
  in_call : Label → Option Arguments → Opened

-- a factor that is begun, with the sum around it and how it stands to this
pub record Frame : Type 0 where
  pub outer : Begun
  pub link : Link
  pub opened : Opened

-- what is begun, the innermost first, and the innermost sum
pub record Building : Type 0 where
  pub around : List Frame
  pub inner : Begun

abbrev pub sum_of : Lead → Product → Sum
sum_of (start sign) p = first sign p
sum_of (after s sign) p = more s sign p

-- a further factor, which begins a sum where its link doesn't fit
abbrev pub added : Begun → Link → Factor → Begun
added (begun l p) links.First f = begun (start None) (one f)
added (begun l p) links.Plus f = begun (after (sum_of l p) Plus) (one f)
added (begun l p) links.Minus f = begun (after (sum_of l p) Minus) (one f)
added (begun l p) links.Times f = begun l (times p f)
added (begun l p) links.Over f = begun l (over p f)
added _ links.Plus f = begun (start (Some Plus)) (one f)
added _ links.Minus f = begun (start (Some Minus)) (one f)
added _ _ f = begun (start None) (one f)

abbrev pub whole : Begun → Option Sum
whole (begun l p) = Some (sum_of l p)
whole _ = None

abbrev pub argument_of : Begun → Option Argument
argument_of nothing = None
argument_of (begun l p) = Some (expression (sum_of l p))
argument_of (a_field n) = Some (field n)

abbrev pub with_argument : Option Arguments → Argument → Arguments
with_argument None a = argument a
with_argument (Some args) a = further args a

abbrev pub with_factor : Building → Link → Factor → Building
with_factor b link f = record { around = b.around; inner = added b.inner link f }

abbrev pub with_frame : Building → Link → Opened → Building
with_frame b link opened = record { around = record { outer = b.inner; link = link; opened = opened } ∷ b.around; inner = nothing }

-- the innermost factor that is begun is this
abbrev pub closed : List Frame → (Opened → Option Base) → Option Building
closed [] base = None
closed (f ∷ around) base = option_map (λ b. record { around = around; inner = added f.outer f.link (factor b None) }) (base f.opened)

-- the innermost factor that is begun goes on so
abbrev pub continued : List Frame → (Opened → Option Opened) → Option Building
continued [] next = None
continued (f ∷ around) next =
    option_map (λ opened. record { around = record { outer = f.outer; link = f.link; opened = opened } ∷ around; inner = nothing }) (next f.opened)

abbrev pub dot_of : Label → Opened → Option Base
dot_of q (in_dot p) = Some (dot p q)
dot_of q _ = None

abbrev pub delta_of : Opened → Option Base
delta_of (in_delta spot (a ∷ b ∷ [])) = Some (delta spot a b)
delta_of _ = None

abbrev pub with_entry : Entry → Opened → Option Opened
with_entry e (in_delta spot entries) = Some (in_delta spot (entries ++ e ∷ []))
with_entry e _ = None

abbrev pub call_with : Option Argument → Label → Option Arguments → Option Base
call_with (Some a) n args = Some (call n (with_argument args a))
call_with None n None = Some (empty_call n)
call_with None n (Some args) = None

abbrev pub call_of : Begun → Opened → Option Base
call_of inner (in_call n args) = call_with (argument_of inner) n args
call_of _ _ = None

abbrev pub parenthesis_of : Begun → Opened → Option Base
parenthesis_of (begun l p) in_parenthesis = Some (parenthesis (sum_of l p))
parenthesis_of _ _ = None

abbrev pub further_of : Begun → Opened → Option Opened
further_of inner (in_call n args) = option_map (λ a. in_call n (Some (with_argument args a))) (argument_of inner)
further_of _ _ = None

-- the last factor is changed so
abbrev pub last_changed : (Factor → Factor) → Product → Product
last_changed change (one f) = one (change f)
last_changed change (times r f) = times r (change f)
last_changed change (over r f) = over r (change f)

abbrev pub changed : (Factor → Factor) → Begun → Begun
changed change (begun l p) = begun l (last_changed change p)
changed change b = b

-- the factor has this power
abbrev pub with_power_on : Power → Factor → Factor
with_power_on p (factor b power) = factor b (Some p)
with_power_on p f = f

-- the factor has this name as its power
abbrev pub with_name_on : Option Sign → Label → Factor → Factor
with_name_on sign n (factor b power) = raised b sign n
with_name_on sign n f = f

-- the name is a wildcard, restricted so
abbrev pub marked : Restriction → Label → Label
marked r (named (Declared n)) = wildcard n r
marked r n = n

-- the last name of a factor is one
abbrev pub marked_base : Restriction → Base → Base
marked_base r (name n) = name (marked r n)
marked_base r (dot p q) = dot p (marked r q)
marked_base r b = b

abbrev pub marked_factor : Restriction → Factor → Factor
marked_factor r (factor b power) = factor (marked_base r b) power
marked_factor r (raised b sign n) = raised b sign (marked r n)

abbrev pub marked_entry : Restriction → Entry → Entry
marked_entry r (name_entry n) = name_entry (marked r n)
marked_entry r (number_entry n) = number_entry n

abbrev pub marked_entries : Restriction → List Entry → List Entry
marked_entries r [] = []
marked_entries r (a ∷ []) = marked_entry r a ∷ []
marked_entries r (a ∷ b ∷ rest) = a ∷ marked_entries r (b ∷ rest)

abbrev pub marked_opened : Restriction → Opened → Option Opened
marked_opened r (in_dot p) = Some (in_dot (marked r p))
marked_opened r (in_delta spot entries) = Some (in_delta spot (marked_entries r entries))
marked_opened r (in_call n args) = Some (in_call (marked r n) args)
marked_opened r in_parenthesis = None

-- the last name that was read is a wildcard
abbrev pub with_mark : List Frame → Begun → Restriction → Option Building
with_mark around nothing r = continued around (marked_opened r)
with_mark around (begun l p) r = Some (record { around = around; inner = begun l (last_changed (marked_factor r) p) })
with_mark around (a_field n) r = None

-- one piece further
abbrev pub built : Building → Piece → Option Building
built b (pieces.Number link n) = Some (with_factor b link (factor (number n) None))
built b (pieces.Name link n) = Some (with_factor b link (factor (name (named n)) None))
built b (pieces.Dot link p) = Some (with_frame b link (in_dot (named p)))
built b (pieces.EndOfDot q) = closed b.around (dot_of (named q))
built b (pieces.Delta link spot) = Some (with_frame b link (in_delta spot []))
built b (pieces.EntryName n) = continued b.around (with_entry (name_entry (named n)))
built b (pieces.EntryNumber n) = continued b.around (with_entry (number_entry n))
built b pieces.EndOfDelta = closed b.around delta_of
built b (pieces.Call link n) = Some (with_frame b link (in_call (named n) None))
-- the innermost argument is complete, and a further one begins
built b pieces.Comma = continued b.around (further_of b.inner)
built b pieces.EndOfCall = closed b.around (call_of b.inner)
built b (pieces.Open link) = Some (with_frame b link in_parenthesis)
built b pieces.Close = closed b.around (parenthesis_of b.inner)
built b (pieces.Raised is_parenthesized sign n) =
    Some (record { around = b.around; inner = changed (with_power_on (record { is_parenthesized = is_parenthesized; sign = sign; number = n })) b.inner })
built b (pieces.RaisedByName sign n) = Some (record { around = b.around; inner = changed (with_name_on sign (named n)) b.inner })
built b (pieces.Marked r) = with_mark b.around b.inner r
built b (pieces.Field n) = Some (record { around = b.around; inner = a_field n })

unfoldable pub build : Building → List Piece → Option Sum
build b [] = whole b.inner
build b (p ∷ rest) = option_and_then (λ next. build next rest) (built b p)

-- the tree that has these pieces, where one has
abbrev pub tree_of : List Piece → Option Sum
tree_of list = build (record { around = []; inner = nothing }) list
