-- Arguments that are one piece: a number, or a power of a symbol.
use Rattle.std.specs.Prelude.{◌≡◌, ◌<◌, ◌≤◌, ℕ, pos, false, nat_abs, List, [], ◌∷◌, ◌++◌, Some}
use Rattle.form_frac.specs.Fraction.{whole, is_zero}
use Rattle.form_term.specs.declared.arguments.Arguments.{Arguments}
use Rattle.form_term.specs.declared.monomial.Monomial.{Monomial}
use Rattle.form_term.specs.Monomial.{number_argument, power_argument}
use Rattle.form_term.specs.Term.{Argument, one, of_symbols, largest_exponent, pieces_of_argument}
use Rattle.form_tree.specs.declared.tree.Piece.{Piece}
use Rattle.form_tree.specs.declared.tree.Piece.TheVariants.{EndOfArgument}
use Rattle.form_expand.specs.declared.ended.Ended.TheVariants as ends
use Rattle.form_expand.specs.declared.literal_arguments.Lone.{Lone}
use Rattle.form_expand.specs.declared.literal_arguments.Lone.TheVariants.{Number, Power}
use Rattle.form_expand.specs.Closings.{closing_at}
use Rattle.form_expand.specs.Listing.{single}
use Rattle.form_expand.specs.Literals.{IsArguedWithin}
use Rattle.form_expand.specs.Meanings.{Meanings}
use Rattle.form_expand.specs.Pieces.{list_of_piece}

-- its term, and the argument that is this term
abbrev pub term_of : Lone → Monomial
term_of (Number q) = record { coefficient = q; term = one }
term_of (Power p) = record { coefficient = whole (pos 1); term = of_symbols (p ∷ []) }

abbrev pub argument_of : Lone → Argument
argument_of (Number q) = number_argument q
argument_of (Power p) = power_argument p

-- what holds of it
abbrev pub IsPresent : Lone → Type 0
IsPresent (Number q) = is_zero q ≡ false
IsPresent (Power p) = (0 < nat_abs p.exponent) × (nat_abs p.exponent ≤ largest_exponent)

-- A piece is that alone.
pub record IsLone (all : Meanings) (piece : Piece) (l : Lone) : Type 0 where
  pub present : IsPresent l
  pub list : list_of_piece all piece ≡ Some (single (term_of l), 1)
  pub closes : (rest : List Piece) → closing_at 0 0 (piece ∷ EndOfArgument ∷ rest) ≡ Some (1, ends.Power 1)

-- An expression that is that alone is read, behind the piece that begins it, which leaves these pieces.
pub record IsLoneArgument (max : ℕ) (all : Meanings) (ps : List Piece) (l : Lone) (rest : List Piece) : Type 0 where
  pub present : IsPresent l
  pub read : (old new : Arguments) → new ≡ old ++ pieces_of_argument (argument_of l) → IsArguedWithin max all ps old new rest
