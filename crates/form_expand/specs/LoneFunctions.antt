-- A term times a right side that is one function.
use Rattle.std.specs.Prelude.{◌≡◌, ℕ, ◌<◌, true, List, [], ◌∷◌}
use Rattle.form_term.specs.declared.monomial.Monomial.{Monomial}
use Rattle.form_term.specs.Term.{Call}
use Rattle.form_tree.specs.declared.tree.Piece.{Piece}
use Rattle.form_expand.specs.declared.lone_function.Timed.{Timed}
use Rattle.form_expand.specs.declared.lone_function.Timed.TheVariants.{Made, Same}
use Rattle.form_expand.specs.Left.{row}
use Rattle.form_expand.specs.Listing.{single, limited}
use Rattle.form_expand.specs.Meanings.{Meanings}
use Rattle.form_expand.specs.Reading.{list_of_pieces}
use Rattle.form_expand.specs.Singles.{list_of_call}

-- pieces are this function, and its row may have a term
pub record IsLoneFunction (max : ℕ) (all : Meanings) (ps : List Piece) (c : Call) : Type 0 where
  pub list : list_of_pieces max all ps ≡ limited max (list_of_call true c)
  pub some : 0 < max

-- The row of a term and the list of these pieces is the one term that was made, or the term is as it was.
abbrev pub IsTimed : ℕ → Meanings → List Piece → Monomial → Timed → Type 0
IsTimed max all ps left (Made made) = row max (single left ∷ list_of_pieces max all ps ∷ []) ≡ single made
IsTimed max all ps left (Same same) = same ≡ left
