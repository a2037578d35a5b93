-- Factors that are one piece, how they stand to what is before them, and which piece ends what is open.
use Rattle.std.specs.Prelude.{◌≡◌, ℕ, false, List, [], ◌∷◌, Option, Some, None}
use Rattle.form_tree.specs.declared.tree.Link.{Link}
use Rattle.form_tree.specs.declared.tree.Piece.{Piece}
use Rattle.form_tree.specs.declared.tree.Piece.TheVariants as pieces
use Rattle.form_tree.specs.Tree as tree
use Rattle.form_tree.specs.Tree.{Factor, Sum, pieces_of_sum}
use Rattle.form_expand.specs.declared.ended.Ended.TheVariants.{Power}
use Rattle.form_expand.specs.Closings.{deep_behind, power_at_end}
use Rattle.form_expand.specs.Listing.{Listing, powers}
use Rattle.form_expand.specs.Meanings.{Meanings}
use Rattle.form_expand.specs.Pieces.{list_of_piece}
use Rattle.form_expand.specs.Readers.{is_minus_link, is_minus_piece}
use Rattle.form_expand.specs.Reading.{begins, begins_product}
use Rattle.form_gathered.specs.declared.joined.JoinedTerm.{JoinedTerm}
use Rattle.form_joined.specs.Products.{HasList}
use Rattle.form_sides.specs.declared.pieces.Nested.{Nested}
use Rattle.form_sides.specs.declared.pieces.Nested.TheVariants.{Ends, Within, Other}

-- how what begins with this piece stands to what is before it
abbrev pub IsLink : Piece → Option Link → Type 0
IsLink piece None = Unit {0}
IsLink piece (Some link) = (begins_product piece ≡ begins link) × (is_minus_piece piece ≡ is_minus_link link)

-- the factor that a piece is, where it is no stored expression and no wildcard
abbrev pub factor_of : Piece → Option Factor
factor_of (pieces.Number link value power) = Some (tree.number value power)
factor_of (pieces.Symbol link symbol power) = Some (tree.symbol symbol power)
factor_of (pieces.Imaginary link power) = Some (tree.imaginary power)
factor_of (pieces.Dot link p q power) = Some (tree.dot p q power)
factor_of (pieces.Component link c power) = Some (tree.component c power)
factor_of (pieces.Delta link i j power) = Some (tree.delta i j power)
factor_of piece = None

-- a sum of this factor alone
abbrev pub sum_of : Factor → Sum
sum_of f = tree.first false (tree.one f)

-- this piece is such a sum
abbrev pub IsOnePiece : Option Factor → Piece → Type 0
IsOnePiece None piece = ⊥
IsOnePiece (Some f) piece = piece ∷ [] ≡ pieces_of_sum (sum_of f)

-- what a piece does to what is open before it, within which so many are open
abbrev pub IsNested : ℕ → Piece → Nested → Type 0
IsNested deep piece (Ends power) = power_at_end deep piece ≡ Some (Power power)
IsNested deep piece (Within more) = (power_at_end deep piece ≡ None) × (more ≡ deep_behind deep piece)
IsNested deep piece Other = Unit {0}

-- the list of a factor that is one piece has these joined terms
pub record HasPiece (max : ℕ) (all : Meanings) (piece : Piece) (js : List JoinedTerm) : Type 0 where
  pub list : Listing
  pub power : ℕ
  pub is : list_of_piece all piece ≡ Some (list, power)
  pub has : HasList (powers max list power) js
