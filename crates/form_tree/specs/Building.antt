-- The tree that pieces are those of: it is built again, one piece after another. What pieces that no tree has come to is never asked.
use Rattle.std.specs.Prelude.{ℕ, pos, Bool, true, false, List, [], ◌∷◌}
use Rattle.form_tree.specs.declared.tree.Link.{Link}
use Rattle.form_tree.specs.declared.tree.Link.TheVariants as links
use Rattle.form_tree.specs.declared.tree.Piece.{Piece}
use Rattle.form_tree.specs.declared.tree.Piece.TheVariants as pieces
use Rattle.form_tree.specs.declared.tree.Base as kept
use Rattle.form_tree.specs.declared.tree.Base.TheVariants as bases
use Rattle.form_tree.specs.declared.tree.Exponent.{Exponent}
use Rattle.form_tree.specs.Tree.{Sum, first, more, Product, one, times, Factor, number, symbol, wild, stored, imaginary, dot, component, delta, function, parenthesis, raised, Base, number_base, symbol_base, wild_base, dot_base, imaginary_base, component_base, delta_base, function_base, parenthesis_base, Arguments, empty, further, Argument, index, vector, field, expression}

-- what is before a product: whether there is a minus, where it is the first, or a sum and that
pub data Lead : Type 0 where
  start : (is_minus : Bool) → Lead
  after : Sum → (is_minus : Bool) → Lead

-- a sum that is begun: nothing yet, or what is before its last product, and this
pub data Begun : Type 0 where
  nothing : Begun
  begun : Lead → Product → Begun

-- a function that is begun: the sum that it stands in, how it stands there, what it is, and its arguments so far
pub record Calling : Type 0 where
  pub around : Begun
  pub link : Link
  pub position : ℕ
  pub is_commuting : Bool
  pub arguments : Arguments

-- what is open around a sum: a parenthesis, in what and how it stands there, or a function one of whose arguments it is
pub data Frame : Type 0 where
  in_parenthesis : Begun → Link → Frame
  in_argument : Calling → Frame

-- where one is: in a sum, or behind an argument of a function
pub data State : Type 0 where
  in_sum : List Frame → Begun → State
  in_function : List Frame → Calling → State
  failed : State

abbrev pub ended_by : Lead → Product → Sum
ended_by (start is_minus) p = first is_minus p
ended_by (after s is_minus) p = more s is_minus p

-- a further factor
abbrev pub added : Begun → Link → Factor → Begun
added nothing links.Plus f = begun (start false) (one f)
added nothing links.Minus f = begun (start true) (one f)
added nothing links.Times f = nothing
added (begun l p) links.Plus f = begun (after (ended_by l p) false) (one f)
added (begun l p) links.Minus f = begun (after (ended_by l p) true) (one f)
added (begun l p) links.Times f = begun l (times p f)

abbrev pub calling : Begun → Link → ℕ → Bool → Arguments → Calling
calling around link position is_commuting args = record { around = around; link = link; position = position; is_commuting = is_commuting; arguments = args }

abbrev pub with_argument : Calling → Argument → Calling
with_argument c a = calling c.around c.link c.position c.is_commuting (further c.arguments a)

-- a base of one piece
abbrev pub base_of : kept.Base → Base
base_of (bases.Number n) = number_base n
base_of (bases.Symbol s) = symbol_base s
base_of (bases.Wild s) = wild_base s
base_of (bases.Dot p q) = dot_base p q
base_of bases.Imaginary = imaginary_base
base_of (bases.Component c) = component_base c
base_of (bases.Delta i j) = delta_base i j

-- a base to a power that a wildcard stands for
abbrev pub raised_by : Base → Exponent → Factor
raised_by b by = raised b by.is_over by.is_minus by.symbol

abbrev pub step : State → Piece → State
step (in_sum frames inner) (pieces.Number link n power) = in_sum frames (added inner link (number n power))
step (in_sum frames inner) (pieces.Symbol link s power) = in_sum frames (added inner link (symbol s power))
step (in_sum frames inner) (pieces.Wild link s is_over power) = in_sum frames (added inner link (wild s is_over power))
step (in_sum frames inner) (pieces.Raised link b by) = in_sum frames (added inner link (raised_by (base_of b) by))
step (in_sum frames inner) (pieces.Stored link e power) = in_sum frames (added inner link (stored e power))
step (in_sum frames inner) (pieces.Imaginary link power) = in_sum frames (added inner link (imaginary power))
step (in_sum frames inner) (pieces.Dot link p q power) = in_sum frames (added inner link (dot p q power))
step (in_sum frames inner) (pieces.Component link c power) = in_sum frames (added inner link (component c power))
step (in_sum frames inner) (pieces.Delta link i j power) = in_sum frames (added inner link (delta i j power))
step (in_sum frames inner) (pieces.Function link f is_commuting) = in_function frames (calling inner link f is_commuting empty)
step (in_sum frames inner) (pieces.Open link) = in_sum (in_parenthesis inner link ∷ frames) nothing
step (in_sum (in_parenthesis outer link ∷ frames) (begun l p)) (pieces.Close power) = in_sum frames (added outer link (parenthesis (ended_by l p) power))
step (in_sum (in_parenthesis outer link ∷ frames) (begun l p)) (pieces.CloseRaised by) = in_sum frames (added outer link (raised_by (parenthesis_base (ended_by l p)) by))
step (in_sum (in_argument c ∷ frames) (begun l p)) pieces.EndOfArgument = in_function frames (with_argument c (expression (ended_by l p)))
step (in_function frames c) (pieces.Index i) = in_function frames (with_argument c (index i))
step (in_function frames c) (pieces.Vector v) = in_function frames (with_argument c (vector v))
step (in_function frames c) (pieces.Field w) = in_function frames (with_argument c (field w))
step (in_function frames c) pieces.Argument = in_sum (in_argument c ∷ frames) nothing
step (in_function frames c) (pieces.EndOfFunction power) = in_sum frames (added c.around c.link (function c.position c.is_commuting c.arguments power))
step (in_function frames c) (pieces.EndOfRaisedFunction by) = in_sum frames (added c.around c.link (raised_by (function_base c.position c.is_commuting c.arguments) by))
step s p = failed

-- pieces behind what is begun
unfoldable pub build : State → List Piece → State
build s [] = s
build s (p ∷ ps) = build (step s p) ps

abbrev pub whole : State → Sum
whole (in_sum [] (begun l p)) = ended_by l p
whole s = first false (one (number 0 (pos 1)))

-- the right side that these pieces are
abbrev pub sum_of : List Piece → Sum
sum_of ps = whole (build (in_sum [] nothing) ps)

abbrev pub last : Arguments → Argument
last (further args a) = a
last empty = field 0

abbrev pub last_argument : State → Argument
last_argument (in_function frames c) = last c.arguments
last_argument s = field 0

-- a function without arguments
abbrev pub alone : Calling
alone = calling nothing links.Plus 0 true empty

-- the argument that these pieces are
abbrev pub argument_of : List Piece → Argument
argument_of ps = last_argument (build (in_function [] alone) ps)
