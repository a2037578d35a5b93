-- Reading the pieces of a right side from the front.
use Rattle.std.specs.Prelude.{ℕ, Bool, true, false, List, [], ◌∷◌, ◌++◌, None, Result, Ok}
use Rattle.form_base.specs.declared.cause.Cause.{Cause}
use Rattle.form_term.specs.Term.{Argument, index, vector}
use Rattle.form_tree.specs.declared.tree.Link.{Link}
use Rattle.form_tree.specs.declared.tree.Link.TheVariants as links
use Rattle.form_tree.specs.declared.tree.Piece.{Piece}
use Rattle.form_tree.specs.declared.tree.Piece.TheVariants as pieces
use Rattle.form_expand.specs.declared.ended.Ended.{Ended}
use Rattle.form_expand.specs.declared.ended.Ended.TheVariants.{Power, Raised}
use Rattle.form_expand.specs.Bound.{wild_list, exponent_in, list_of_base, powered_by}
use Rattle.form_expand.specs.Meanings.{Meanings, terms_of, index_of, vector_of, component_of, function_of, field_of}
use Rattle.form_expand.specs.Left.{row}
use Rattle.form_expand.specs.Listing.{Listing, nothing, limited, followed, powers, signed}
use Rattle.form_expand.specs.Numbers.{number_list, symbol_list}
use Rattle.form_expand.specs.Singles.{imaginary_list, dot_list, component_list, delta_list, function_list, argument_of, one_argument, with_arguments}

-- A sum that is being read, to this limit of terms: the list of the products that are read, and of the product at hand
-- its sign and the lists of its factors.
pub record Part : Type 0 where
  pub max : ℕ
  pub sum : Listing
  pub is_minus : Bool
  pub factors : List Listing

-- A function that is being read, whose lists have this limit: its arguments so far, unless one was refused.
pub record Calling : Type 0 where
  pub max : ℕ
  pub function : ℕ
  pub is_commuting : Bool
  pub arguments : Result (List Argument) Cause

-- What is open: a sum, or a function.
pub data Frame : Type 0 where
  in_sum : Part → Frame
  in_function : Calling → Frame

-- a sum before its first product, and a function before its first argument
abbrev pub fresh : ℕ → Part
fresh max = record { max = max; sum = nothing; is_minus = false; factors = [] }

abbrev pub calling : ℕ → ℕ → Bool → Calling
calling max f is_commuting = record { max = max; function = f; is_commuting = is_commuting; arguments = Ok [] }

-- the list of a sum, the product at hand being its last
unfoldable pub closed : Part → Listing
closed p = limited p.max (followed p.sum (signed p.is_minus (row p.max p.factors)))

-- the list of what is open, where it ends
abbrev pub list_of_frame : Frame → Listing
list_of_frame (in_sum p) = closed p
list_of_frame (in_function k) = function_list k.function k.is_commuting k.arguments

abbrev pub limit_of : Frame → ℕ
limit_of (in_sum p) = p.max
limit_of (in_function k) = k.max

-- a further product begins
abbrev pub begun : Bool → Part → Part
begun is_minus p = record { max = p.max; sum = closed p; is_minus = is_minus; factors = [] }

abbrev pub linked : Link → Part → Part
linked links.Plus p = begun false p
linked links.Minus p = begun true p
linked links.Times p = p

abbrev pub linked_frame : Link → Frame → Frame
linked_frame link (in_sum p) = in_sum (linked link p)
linked_frame link (in_function k) = in_function k

-- a further factor: a list to a power
abbrev pub with_factor : Listing → ℕ → Part → Part
with_factor l power p = record { max = p.max; sum = p.sum; is_minus = p.is_minus; factors = p.factors ++ powers p.max l power ∷ [] }

-- further arguments
abbrev pub argued : Result (List Argument) Cause → Calling → Calling
argued a k = record { max = k.max; function = k.function; is_commuting = k.is_commuting; arguments = with_arguments k.arguments a }

-- what is being read: the innermost frame, and those around it from the inside
pub record Reading : Type 0 where
  pub top : Frame
  pub outer : List Frame

-- before the first piece
abbrev pub beginning : ℕ → Reading
beginning max = record { top = in_sum (fresh max); outer = [] }

-- a factor that is one piece; between the arguments of a function it is passed over
abbrev pub factor_into : Link → Listing → ℕ → Frame → Frame
factor_into link l power (in_sum p) = in_sum (with_factor l power (linked link p))
factor_into link l power (in_function k) = in_function k

abbrev pub with_piece : Link → Listing → ℕ → Reading → Reading
with_piece link l power r = record { top = factor_into link l power r.top; outer = r.outer }

abbrev pub with_powered : Link → Listing × ℕ → Reading → Reading
with_powered link f r = with_piece link f.0 f.1 r

-- arguments that are one piece; in a sum it is passed over
abbrev pub argument_into : List Argument → Frame → Frame
argument_into args (in_sum p) = in_sum p
argument_into args (in_function k) = in_function (argued (Ok args) k)

abbrev pub with_argument_piece : List Argument → Reading → Reading
with_argument_piece args r = record { top = argument_into args r.top; outer = r.outer }

-- a function begins where a factor may; else an argument does
abbrev pub begun_function : ℕ → Bool → Frame → Frame
begun_function f is_commuting (in_sum p) = in_function (calling p.max f is_commuting)
begun_function f is_commuting (in_function k) = in_sum (fresh k.max)

-- something begins within what is open
abbrev pub opening : Link → Frame → Reading → Reading
opening link inner r = record { top = inner; outer = linked_frame link r.top ∷ r.outer }

-- a list to a power as a further factor
abbrev pub with_powered_factor : Listing × ℕ → Part → Part
with_powered_factor f p = with_factor f.0 f.1 p

-- something that was open within ends so, with this list
abbrev pub ended : Meanings → Listing → Ended → Frame → Frame
ended all l by (in_sum p) = in_sum (with_powered_factor (powered_by all by l) p)
ended all l by (in_function k) = in_function (argued (one_argument (argument_of l)) k)

-- the end of what is innermost; where nothing is open around it, it is passed over
abbrev pub closing : Meanings → Ended → Frame → List Frame → Reading
closing all by top [] = record { top = top; outer = [] }
closing all by top (f ∷ fs) = record { top = ended all (list_of_frame top) by f; outer = fs }

-- a piece is read
unfoldable pub fed : Meanings → Reading → Piece → Reading
fed all r (pieces.Number link value power) = with_piece link (number_list value power) 1 r
fed all r (pieces.Symbol link symbol power) = with_piece link (symbol_list symbol power) 1 r
fed all r (pieces.Wild link symbol is_over power) = with_powered link (wild_list all symbol is_over power) r
fed all r (pieces.Raised link base by) = with_powered link (list_of_base all base by.is_over (exponent_in all by.is_minus by.symbol)) r
fed all r (pieces.Stored link expression power) = with_piece link (record { terms = terms_of all expression; end = None }) power r
fed all r (pieces.Imaginary link power) = with_piece link imaginary_list power r
fed all r (pieces.Dot link p q power) = with_piece link (dot_list (vector_of all p) (vector_of all q) power) 1 r
fed all r (pieces.Component link c power) = with_piece link (component_list (component_of all c)) power r
fed all r (pieces.Delta link i j power) = with_piece link (delta_list (index_of all i) (index_of all j)) power r
fed all r (pieces.Function link f is_commuting) = opening link (begun_function (function_of all f) is_commuting r.top) r
fed all r (pieces.EndOfFunction power) = closing all (Power power) r.top r.outer
fed all r (pieces.EndOfRaisedFunction by) = closing all (Raised by) r.top r.outer
fed all r (pieces.Field w) = with_argument_piece (field_of all w) r
fed all r (pieces.Index i) = with_argument_piece (index (index_of all i) ∷ []) r
fed all r (pieces.Vector v) = with_argument_piece (vector (vector_of all v) ∷ []) r
fed all r pieces.Argument = opening links.Times (in_sum (fresh (limit_of r.top))) r
fed all r pieces.EndOfArgument = closing all (Power 1) r.top r.outer
fed all r (pieces.Open link) = opening link (in_sum (fresh (limit_of r.top))) r
fed all r (pieces.Close power) = closing all (Power power) r.top r.outer
fed all r (pieces.CloseRaised by) = closing all (Raised by) r.top r.outer

-- the outermost frame
abbrev pub outermost : Frame → List Frame → Frame
outermost top [] = top
outermost top (f ∷ fs) = outermost f fs

-- the list of the outermost frame once these pieces are read
unfoldable pub read_from : Meanings → Reading → List Piece → Listing
read_from all r [] = list_of_frame (outermost r.top r.outer)
read_from all r (piece ∷ more) = read_from all (fed all r piece) more

-- the list of these pieces
abbrev pub list_of_pieces : ℕ → Meanings → List Piece → Listing
list_of_pieces max all pieces = read_from all (beginning max) pieces

-- how what begins with this piece stands to what is before it; what begins nothing goes on
abbrev pub link_of_piece : Piece → Link
link_of_piece (pieces.Number link value power) = link
link_of_piece (pieces.Symbol link symbol power) = link
link_of_piece (pieces.Wild link symbol is_over power) = link
link_of_piece (pieces.Raised link base by) = link
link_of_piece (pieces.Stored link expression power) = link
link_of_piece (pieces.Imaginary link power) = link
link_of_piece (pieces.Dot link p q power) = link
link_of_piece (pieces.Component link c power) = link
link_of_piece (pieces.Delta link i j power) = link
link_of_piece (pieces.Function link f is_commuting) = link
link_of_piece (pieces.EndOfFunction power) = links.Times
link_of_piece (pieces.EndOfRaisedFunction by) = links.Times
link_of_piece (pieces.Field w) = links.Times
link_of_piece (pieces.Index i) = links.Times
link_of_piece (pieces.Vector v) = links.Times
link_of_piece pieces.Argument = links.Times
link_of_piece pieces.EndOfArgument = links.Times
link_of_piece (pieces.Open link) = link
link_of_piece (pieces.Close power) = links.Times
link_of_piece (pieces.CloseRaised by) = links.Times

-- whether a product begins with this piece
abbrev pub begins : Link → Bool
begins links.Plus = true
begins links.Minus = true
begins links.Times = false

abbrev pub begins_product : Piece → Bool
begins_product p = begins (link_of_piece p)
