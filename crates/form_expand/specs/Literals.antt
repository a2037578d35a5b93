-- Products each of which is read into one term.
use Rattle.std.specs.Prelude.{◌≡◌, ℕ, ◌≤◌, ◌<◌, Bool, List, [], ◌∷◌, ◌++◌, length, Some, Ok}
use Rattle.form_term.specs.declared.arguments.Arguments.{Arguments}
use Rattle.form_term.specs.declared.monomial.Monomial.{Monomial}
use Rattle.form_term.specs.Calls.{call}
use Rattle.form_term.specs.Monomial.{unit}
use Rattle.form_term.specs.Term.{Argument, pieces_of_arguments}
use Rattle.form_normal.specs.Product.{product_of}
use Rattle.form_tree.specs.declared.tree.Piece.{Piece}
use Rattle.form_expand.specs.declared.literal.Literal.{Literal}
use Rattle.form_expand.specs.Calls.{called, IsFurther}
use Rattle.form_expand.specs.Meanings.{Meanings}
use Rattle.form_expand.specs.Listing.{Listing, single, limited, followed, signed}
use Rattle.form_expand.specs.Readers.{IsReadFactor, IsReadFunction, list_of_calling}
use Rattle.form_expand.specs.Reading.{in_sum, in_function, fresh, calling, read_from, list_of_pieces}
use Rattle.form_expand.specs.Singles.{list_of_call}

-- a term times a list of one term, which alone is the term that 1 gives with it
pub record IsTimes (l : Listing) (old new : Monomial) : Type 0 where
  pub factor : Monomial
  pub alone : l ≡ single factor
  pub by_one : product_of unit factor ≡ Ok (Some factor)
  pub product : product_of old factor ≡ Ok (Some new)

-- a further factor is taken, whose reading leads from these factors to those
pub record IsTaken (max : ℕ) (Reads : List Listing → List Listing → Type 0) (old new : Monomial) : Type 0 where
  pub list : Listing
  pub times : IsTimes list old new
  pub read : (factors : List Listing) → Reads factors (factors ++ limited max list ∷ [])

-- The factor that begins with this piece is taken, which leaves these pieces.
pub record IsTakenAt (max : ℕ) (all : Meanings) (piece : Piece) (more : List Piece) (old new : Monomial) (rest : List Piece) : Type 0 where
  pub taken : IsTaken max (λ before after. IsReadFactor max all piece more before after rest) old new
  pub shorter : length rest ≤ length more

-- the same of a function, behind the piece that begins it
pub record IsTakenWithin (f : ℕ) (is_commuting : Bool) (max : ℕ) (all : Meanings) (pieces : List Piece) (old new : Monomial) (rest : List Piece) : Type 0 where
  pub taken : IsTaken max (λ before after. IsReadFunction f is_commuting max all pieces before after rest) old new
  pub shorter : length rest ≤ length pieces

-- these are the arguments that pieces give, whatever the function
abbrev pub AreArgued : ℕ → Meanings → List Piece → Arguments → Type 0
AreArgued max all ps arguments = (f : ℕ) (is_commuting : Bool) → list_of_calling all (calling max f is_commuting) ps ≡ list_of_call is_commuting (call f arguments)

-- a further argument is read, which leaves these pieces
pub record IsArgued (max : ℕ) (all : Meanings) (ps : List Piece) (old new : Arguments) (rest : List Piece) : Type 0 where
  pub further : (f : ℕ) (is_commuting : Bool) (args : List Argument) → old ≡ pieces_of_arguments args → IsFurther max all (list_of_calling all (called max f is_commuting args) ps) f is_commuting new rest
  pub shorter : length rest < length ps

-- the same of an expression, behind the piece that begins it
pub record IsArguedWithin (max : ℕ) (all : Meanings) (ps : List Piece) (old new : Arguments) (rest : List Piece) : Type 0 where
  pub further : (f : ℕ) (is_commuting : Bool) (args : List Argument) → old ≡ pieces_of_arguments args
      → IsFurther max all (read_from all (record { top = in_sum (fresh max); outer = in_function (called max f is_commuting args) ∷ [] }) ps) f is_commuting new rest
  pub shorter : length rest ≤ length ps

-- a product of this list is read at the front of these pieces, which leaves those
abbrev pub ReadsProduct : ℕ → Meanings → List Piece → Literal → List Piece → Type 0
ReadsProduct max all ps l rest = list_of_pieces max all ps ≡ limited max (followed (signed l.is_minus (limited max (single l.term))) (list_of_pieces max all rest))

-- The product at the front of these pieces is this term, and leaves those pieces.
pub record IsLiteral (max : ℕ) (all : Meanings) (pieces : List Piece) (l : Literal) (rest : List Piece) : Type 0 where
  pub list : ReadsProduct max all pieces l rest
  pub shorter : length rest < length pieces
