-- Arguments that are sums of products of numbers.
use Rattle.std.specs.Prelude.{◌≡◌, ℕ, Bool, true, false, List, ◌++◌, Option, Some, None, option_map, if◌then◌else◌}
use Rattle.form_frac.specs.Fraction.{Fraction, IsLowest, add, multiply, negate, is_zero}
use Rattle.form_term.specs.declared.arguments.Arguments.{Arguments}
use Rattle.form_term.specs.Monomial.{number_argument}
use Rattle.form_term.specs.Term.{pieces_of_argument}
use Rattle.form_normal.specs.Product.{number_alone}
use Rattle.form_tree.specs.declared.tree.Link.{Link}
use Rattle.form_tree.specs.declared.tree.Link.TheVariants as links
use Rattle.form_tree.specs.declared.tree.Piece.{Piece}
use Rattle.form_tree.specs.declared.tree.Piece.TheVariants.{EndOfArgument}
use Rattle.form_expand.specs.declared.number_sum.Adding.{Adding}
use Rattle.form_expand.specs.Listing.{single}
use Rattle.form_expand.specs.Literals.{IsArguedWithin}
use Rattle.form_expand.specs.Meanings.{Meanings}
use Rattle.form_expand.specs.Reading.{Reading, with_piece, fed}
use Rattle.form_expand.specs.Readers.{is_minus_link}

-- a piece is a number as a factor
pub record IsNumberPiece (all : Meanings) (piece : Piece) (link : Link) (q : Fraction) : Type 0 where
  pub read : (r : Reading) → fed all r piece ≡ with_piece link (single (number_alone q)) 1 r
  pub lowest : IsLowest q

abbrev pub with_minus : Bool → Fraction → Fraction
with_minus is_minus q = if is_minus then negate q else q

abbrev pub added : Option Fraction → Fraction → Option Fraction
added None q = Some q
added (Some s) q = add s q

-- all products of a sum together
abbrev pub total_of : Adding → Option Fraction
total_of a = added a.sum (with_minus a.is_minus a.product)

-- a sum with its first factor
abbrev pub begun_sum : Link → Fraction → Adding
begun_sum link q = record { sum = None; is_minus = is_minus_link link; product = q }

-- a sum with a further factor: of its last product, or the first of a further one
abbrev pub times_sum : Adding → Fraction → Option Adding
times_sum a q = option_map (λ p. record { sum = a.sum; is_minus = a.is_minus; product = p }) (multiply a.product q)

abbrev pub begun_behind : Adding → Bool → Fraction → Option Adding
begun_behind a is_minus q = option_map (λ s. record { sum = Some s; is_minus = is_minus; product = q }) (total_of a)

abbrev pub further_sum : Adding → Link → Fraction → Option Adding
further_sum a links.Times q = times_sum a q
further_sum a links.Plus q = begun_behind a false q
further_sum a links.Minus q = begun_behind a true q

-- a sum is ended by this piece, and is this number, which isn't 0
pub record IsEndOfSum (a : Adding) (end : Piece) (q : Fraction) : Type 0 where
  pub ends : end ≡ EndOfArgument
  pub total : total_of a ≡ Some q
  pub present : is_zero q ≡ false

-- an expression that is this number is read, behind the piece that begins it, which leaves these pieces
pub record IsNumberArgument (max : ℕ) (all : Meanings) (ps : List Piece) (q : Fraction) (rest : List Piece) : Type 0 where
  pub present : is_zero q ≡ false
  pub read : (old new : Arguments) → new ≡ old ++ pieces_of_argument (number_argument q) → IsArguedWithin max all ps old new rest
