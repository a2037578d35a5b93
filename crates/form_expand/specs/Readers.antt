-- What a reader has read.
use Rattle.std.specs.Prelude.{◌≡◌, ℕ, Bool, true, false, List, [], ◌∷◌}
use Rattle.form_tree.specs.declared.tree.Link.{Link}
use Rattle.form_tree.specs.declared.tree.Link.TheVariants as links
use Rattle.form_tree.specs.declared.tree.Piece.{Piece}
use Rattle.form_tree.specs.declared.tree.Piece.TheVariants as pieces
use Rattle.form_expand.specs.Meanings.{Meanings}
use Rattle.form_expand.specs.Left.{row}
use Rattle.form_expand.specs.Listing.{Listing, nothing, limited, followed, signed}
use Rattle.form_expand.specs.Reading.{Part, Calling, Frame, in_sum, in_function, Reading, fresh, calling, link_of_piece, begins_product, read_from, list_of_pieces}

-- the first factor of a product alone has a sign before it: these pieces are its first, or begin with a further factor
abbrev pub IsSignedFirst : List Piece → List Listing → Type 0
IsSignedFirst [] factors = Unit {0}
IsSignedFirst (p ∷ ps) factors = (factors ≡ [] → ⊥) → link_of_piece p ≡ links.Times

-- a sum in parentheses begins there
abbrev pub BeginsSum : List Piece → Type 0
BeginsSum (pieces.Open link ∷ ps) = Unit {0}
BeginsSum (pieces.Argument ∷ ps) = Unit {0}
BeginsSum ps = ⊥

abbrev pub is_minus_link : Link → Bool
is_minus_link links.Plus = false
is_minus_link links.Minus = true
is_minus_link links.Times = false

-- whether the product that begins with this piece is subtracted
abbrev pub is_minus_piece : Piece → Bool
is_minus_piece p = is_minus_link (link_of_piece p)

-- a piece as that of a further factor
abbrev pub joined : Piece → Piece
joined (pieces.Number link value power) = pieces.Number links.Times value power
joined (pieces.Symbol link symbol power) = pieces.Symbol links.Times symbol power
joined (pieces.Wild link symbol is_over power) = pieces.Wild links.Times symbol is_over power
joined (pieces.Raised link base by) = pieces.Raised links.Times base by
joined (pieces.Stored link expression power) = pieces.Stored links.Times expression power
joined (pieces.Imaginary link power) = pieces.Imaginary links.Times power
joined (pieces.Dot link p q power) = pieces.Dot links.Times p q power
joined (pieces.Component link c power) = pieces.Component links.Times c power
joined (pieces.Delta link i j power) = pieces.Delta links.Times i j power
joined (pieces.Function link f is_commuting) = pieces.Function links.Times f is_commuting
joined (pieces.EndOfFunction power) = pieces.EndOfFunction power
joined (pieces.EndOfRaisedFunction by) = pieces.EndOfRaisedFunction by
joined (pieces.Field w) = pieces.Field w
joined (pieces.Index i) = pieces.Index i
joined (pieces.Vector v) = pieces.Vector v
joined pieces.Argument = pieces.Argument
joined pieces.EndOfArgument = pieces.EndOfArgument
joined (pieces.Open link) = pieces.Open links.Times
joined (pieces.Close power) = pieces.Close power
joined (pieces.CloseRaised by) = pieces.CloseRaised by

-- a sum of which only this product is read
abbrev pub product_part : ℕ → Bool → List Listing → Part
product_part max is_minus factors = record { max = max; sum = nothing; is_minus = is_minus; factors = factors }

abbrev pub in_product : ℕ → Bool → List Listing → Reading
in_product max is_minus factors = record { top = in_sum (product_part max is_minus factors); outer = [] }

-- something begins in it
abbrev pub in_frame : Frame → ℕ → Bool → List Listing → Reading
in_frame f max is_minus factors = record { top = f; outer = in_sum (product_part max is_minus factors) ∷ [] }

-- a product that begins there, or the end
abbrev pub EndsProduct : List Piece → Type 0
EndsProduct [] = Unit {0}
EndsProduct (p ∷ ps) = begins_product p ≡ true

-- this piece and perhaps more were read, which makes these factors those
abbrev pub IsReadFactor : ℕ → Meanings → Piece → List Piece → List Listing → List Listing → List Piece → Type 0
IsReadFactor max all piece more old new rest = (is_minus : Bool) → read_from all (in_product max is_minus old) (joined piece ∷ more) ≡ read_from all (in_product max is_minus new) rest

-- the factor that these pieces begin with was read
abbrev pub IsReadAt : ℕ → Meanings → List Piece → List Listing → List Listing → List Piece → Type 0
IsReadAt max all [] old new rest = (new ≡ old) × (rest ≡ [])
IsReadAt max all (piece ∷ more) old new rest = IsReadFactor max all piece more old new rest

-- the same behind the piece that begins a parenthesis, or a function
abbrev pub IsReadWithin : Frame → ℕ → Meanings → List Piece → List Listing → List Listing → List Piece → Type 0
IsReadWithin f max all ps old new rest = (is_minus : Bool) → read_from all (in_frame f max is_minus old) ps ≡ read_from all (in_product max is_minus new) rest

abbrev pub IsReadParenthesis : ℕ → Meanings → List Piece → List Listing → List Listing → List Piece → Type 0
IsReadParenthesis max all ps old new rest = IsReadWithin (in_sum (fresh max)) max all ps old new rest

abbrev pub IsReadFunction : ℕ → Bool → ℕ → Meanings → List Piece → List Listing → List Listing → List Piece → Type 0
IsReadFunction f is_commuting max all ps old new rest = IsReadWithin (in_function (calling max f is_commuting)) max all ps old new rest

-- the list of a function whose arguments so far are these, and the pieces of the others these
abbrev pub list_of_calling : Meanings → Calling → List Piece → Listing
list_of_calling all k ps = read_from all (record { top = in_function k; outer = [] }) ps

abbrev pub IsReadOn : ℕ → Meanings → List Piece → List Listing → List Listing → List Piece → Type 0
IsReadOn max all ps old new rest = ((is_minus : Bool) → read_from all (in_product max is_minus old) ps ≡ read_from all (in_product max is_minus new) rest) × EndsProduct rest

-- a product with this sign and these factors was read, and this is behind it
abbrev pub IsRead : ℕ → Meanings → List Piece → Bool → List Listing → List Piece → Type 0
IsRead max all ps is_minus factors rest = list_of_pieces max all ps ≡ limited max (followed (signed is_minus (row max factors)) (list_of_pieces max all rest))
