-- The concrete syntax of right sides and patterns, one type for each rule of the grammar, and the pieces that such a tree
-- is kept as.
use Rattle.std.specs.Prelude.{List, [], ◌∷◌, ◌++◌, Option, Some, None}
use Rattle.form_ast.specs.declared.expr.Sign.{Sign}
use Rattle.form_ast.specs.declared.expr.Sign.TheVariants as signs
use Rattle.form_ast.specs.declared.expr.Link.{Link}
use Rattle.form_ast.specs.declared.expr.Link.TheVariants as links
use Rattle.form_number.specs.declared.number.Number.{Number}
use Rattle.form_base.specs.declared.spot.Spot.{Spot}
use Rattle.form_ast.specs.declared.expr.Named.{Named}
use Rattle.form_ast.specs.declared.expr.Named.TheVariants.{Declared}
use Rattle.form_ast.specs.declared.expr.Spelled.{Spelled}
use Rattle.form_ast.specs.declared.expr.Restriction.{Restriction}
use Rattle.form_ast.specs.declared.expr.Power.{Power}
use Rattle.form_ast.specs.declared.expr.Piece.{Piece}
use Rattle.form_ast.specs.declared.expr.Piece.TheVariants as pieces

-- a name, alone or with the mark of a wildcard and what this may stand for
pub data Label : Type 0 where
  named : Named → Label
  wildcard : Spelled → Restriction → Label

-- an argument of `d_`
pub data Entry : Type 0 where
  name_entry : Label → Entry
  number_entry : Number → Entry

mutual
  -- products, each behind a sign, which only the first may lack
  pub data Sum : Type 0 where
    first : Option Sign → Product → Sum
    more : Sum → Sign → Product → Sum

  -- factors, joined by `*` and `/`
  pub data Product : Type 0 where
    one : Factor → Product
    times : Product → Factor → Product
    over : Product → Factor → Product

  -- a base, to a power or alone; the power may be a name with a sign or none
  pub data Factor : Type 0 where
    factor : Base → Option Power → Factor
    raised : Base → Option Sign → Label → Factor

  -- A number, a name, a dot product of two names, `d_`, where it stands, with two arguments, a name with nothing in its
  -- parentheses, a name with arguments, or a sum in parentheses.
  pub data Base : Type 0 where
    number : Number → Base
    name : Label → Base
    dot : Label → Label → Base
    delta : Spot → Entry → Entry → Base
    empty_call : Label → Base
    call : Label → Arguments → Base
    parenthesis : Sum → Base

  -- arguments, parted by commas
  pub data Arguments : Type 0 where
    argument : Argument → Arguments
    further : Arguments → Argument → Arguments

  -- a sum, or a field, which stands for any number of arguments
  pub data Argument : Type 0 where
    expression : Sum → Argument
    field : Spelled → Argument

-- how the first factor of a product stands behind its sign
abbrev pub link_of : Sign → Link
link_of signs.Plus = links.Plus
link_of signs.Minus = links.Minus

abbrev pub first_link : Option Sign → Link
first_link None = links.First
first_link (Some sign) = link_of sign

abbrev pub name_of : Label → Named
name_of (named n) = n
name_of (wildcard n r) = Declared n

-- a wildcard's mark is a piece of its own, behind the one that has its name
abbrev pub mark_of : Label → List Piece
mark_of (named n) = []
mark_of (wildcard n r) = pieces.Marked r ∷ []

abbrev pub pieces_of_entry : Entry → List Piece
pieces_of_entry (name_entry n) = pieces.EntryName (name_of n) ∷ mark_of n
pieces_of_entry (number_entry n) = pieces.EntryNumber n ∷ []

abbrev pub piece_of_power : Power → Piece
piece_of_power p = pieces.Raised p.is_parenthesized p.sign p.number

-- the pieces of a base, and its power, where it has one
abbrev pub with_power : List Piece → Option Power → List Piece
with_power base None = base
with_power base (Some p) = base ++ piece_of_power p ∷ []

-- the pieces of a tree, in the order of the text
abbrev mutual
  pub pieces_of_sum : Sum → List Piece
  pieces_of_sum (first sign p) = pieces_of_product (first_link sign) p
  pieces_of_sum (more s sign p) = pieces_of_sum s ++ pieces_of_product (link_of sign) p

  pub pieces_of_product : Link → Product → List Piece
  pieces_of_product link (one f) = pieces_of_factor link f
  pieces_of_product link (times p f) = pieces_of_product link p ++ pieces_of_factor links.Times f
  pieces_of_product link (over p f) = pieces_of_product link p ++ pieces_of_factor links.Over f

  pub pieces_of_factor : Link → Factor → List Piece
  pieces_of_factor link (factor b power) = with_power (pieces_of_base link b) power
  pieces_of_factor link (raised b sign n) = pieces_of_base link b ++ pieces.RaisedByName sign (name_of n) ∷ mark_of n

  pub pieces_of_base : Link → Base → List Piece
  pieces_of_base link (number n) = pieces.Number link n ∷ []
  pieces_of_base link (name n) = pieces.Name link (name_of n) ∷ mark_of n
  pieces_of_base link (dot p q) = pieces.Dot link (name_of p) ∷ mark_of p ++ pieces.EndOfDot (name_of q) ∷ mark_of q
  pieces_of_base link (delta spot a b) = pieces.Delta link spot ∷ pieces_of_entry a ++ pieces_of_entry b ++ pieces.EndOfDelta ∷ []
  pieces_of_base link (empty_call n) = pieces.Call link (name_of n) ∷ mark_of n ++ pieces.EndOfCall ∷ []
  pieces_of_base link (call n args) = pieces.Call link (name_of n) ∷ mark_of n ++ pieces_of_arguments args ++ pieces.EndOfCall ∷ []
  pieces_of_base link (parenthesis s) = pieces.Open link ∷ pieces_of_sum s ++ pieces.Close ∷ []

  pub pieces_of_arguments : Arguments → List Piece
  pieces_of_arguments (argument a) = pieces_of_argument a
  pieces_of_arguments (further args a) = pieces_of_arguments args ++ pieces.Comma ∷ pieces_of_argument a

  pub pieces_of_argument : Argument → List Piece
  pieces_of_argument (expression s) = pieces_of_sum s
  pieces_of_argument (field n) = pieces.Field n ∷ []
