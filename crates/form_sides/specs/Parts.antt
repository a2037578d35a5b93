-- What is read of a right side from the front, and joined terms that have its list.
use Rattle.std.specs.Prelude.{◌≡◌, ◌<◌, ◌≤◌, ℕ, List, [], ◌∷◌, ◌++◌, length}
use Rattle.form_tree.specs.declared.tree.Link.{Link}
use Rattle.form_tree.specs.declared.tree.Piece.{Piece}
use Rattle.form_expand.specs.Left.{row}
use Rattle.form_expand.specs.Listing.{Listing, limited, followed}
use Rattle.form_expand.specs.Meanings.{Meanings}
use Rattle.form_expand.specs.Readers.{EndsProduct, IsReadFactor, IsReadParenthesis, is_minus_link, is_minus_piece}
use Rattle.form_expand.specs.Reading.{list_of_pieces}
use Rattle.form_gathered.specs.declared.joined.JoinedTerm.{JoinedTerm}
use Rattle.form_joined.specs.Products.{HasList}
use Rattle.form_sides.specs.Products.{HavePower}
use Rattle.form_sides.specs.declared.sums.Read.{Read}
use Rattle.form_sides.specs.declared.sums.Read.TheVariants.{Further, Unknown}

-- A further factor is read so, behind whatever factors: its list, which is within its limit, has these joined terms.
pub record HasFactor (max : ℕ) (reads : List Listing → List Listing → List Piece → Type 0) (js : List JoinedTerm) (rest : List Piece) : Type 0 where
  pub list : Listing
  pub has : HasList list js
  pub within : limited max list ≡ list
  pub read : (old : List Listing) → reads old (old ++ list ∷ []) rest

-- The front of a product is read that begins with this piece: the row of these factors has these joined terms.
pub record HasFront (max : ℕ) (all : Meanings) (piece : Piece) (more : List Piece) (js : List JoinedTerm) (rest : List Piece) : Type 0 where
  pub first : Listing
  pub later : List Listing
  pub has : HasList (row max (first ∷ later)) js
  pub read : IsReadFactor max all piece more [] (first ∷ later) rest

-- The first products of a sum are read: their list has these joined terms.
pub record HasPart (max : ℕ) (all : Meanings) (ps : List Piece) (js : List JoinedTerm) (rest : List Piece) : Type 0 where
  pub list : Listing
  pub has : HasList list js
  pub read : list_of_pieces max all ps ≡ limited max (followed list (list_of_pieces max all rest))

-- what came of reading each of these, if it is known
abbrev pub ReadsFactor : ℕ → Meanings → Piece → List Piece → Read → Type 0
ReadsFactor max all piece more (Further js rest) = HasFactor max (IsReadFactor max all piece more) js.items rest.now
ReadsFactor max all piece more Unknown = Unit {0}

abbrev pub ReadsParenthesis : ℕ → Meanings → List Piece → Read → Type 0
ReadsParenthesis max all ps (Further js rest) = HasFactor max (IsReadParenthesis max all ps) js.items rest.now
ReadsParenthesis max all ps Unknown = Unit {0}

abbrev pub ReadsFront : ℕ → Meanings → Piece → List Piece → Read → Type 0
ReadsFront max all piece more (Further js rest) = HasFront max all piece more js.items rest.now × EndsProduct rest.now
ReadsFront max all piece more Unknown = Unit {0}

abbrev pub ReadsPart : ℕ → Meanings → List Piece → Read → Type 0
ReadsPart max all ps (Further js rest) = HasPart max all ps js.items rest.now
ReadsPart max all ps Unknown = Unit {0}

-- whatever product has this front, it was read on
abbrev pub ReadsOn : ℕ → Meanings → List JoinedTerm → List Piece → Read → Type 0
ReadsOn max all front ps read = (piece : Piece) (more : List Piece) → HasFront max all piece more front ps → ReadsFront max all piece more read

-- a product that was read, and the same behind its sign, which its first piece has
abbrev pub IsSigned : Link → Read → Read → Type 0
IsSigned link read new = (max : ℕ) (all : Meanings) (piece : Piece) (more : List Piece) → is_minus_piece piece ≡ is_minus_link link → ReadsFront max all piece more read → ReadsPart max all (piece ∷ more) new

-- a power of these was made, with these pieces behind it
abbrev pub HasPowered : ℕ → List JoinedTerm → ℕ → List Piece → Read → Type 0
HasPowered max js n ps (Further all rest) = HavePower max js n all.items × (rest.now ≡ ps)
HasPowered max js n ps Unknown = Unit {0}

-- what is left is shorter, or no longer
abbrev pub is_shorter : List Piece → Read → Type 0
is_shorter ps (Further js rest) = length rest.now < length ps
is_shorter ps Unknown = Unit {0}

abbrev pub is_no_longer : List Piece → Read → Type 0
is_no_longer ps (Further js rest) = length rest.now ≤ length ps
is_no_longer ps Unknown = Unit {0}
