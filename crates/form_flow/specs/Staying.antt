-- Terms that stay as they are where indices become others.
use Rattle.std.specs.Prelude.{ℕ, Bool, true, not, ◌&&◌, List}
use Rattle.std.specs.List.{list_all}
use Rattle.form_normal.specs.Product.{is_fixed}
use Rattle.form_term.specs.declared.index.Delta.{Delta}
use Rattle.form_term.specs.declared.index.Index.{Index}
use Rattle.form_term.specs.declared.piece.Piece.{Piece}
use Rattle.form_term.specs.declared.piece.Piece.TheVariants as pieces
use Rattle.form_term.specs.Term.{Call, Term}
use Rattle.form_flow.specs.Indices.{is_declared}

-- an index is none of these
abbrev pub is_other : List ℕ → Index → Bool
is_other is j = list_all (λ i. not (is_declared i j)) is

-- a delta is neither 1 nor 0, and none of these stands in it
abbrev pub delta_stays : List ℕ → Delta → Bool
delta_stays is d = not (is_fixed d) && is_other is d.first && is_other is d.second

abbrev pub piece_stays : List ℕ → Piece → Bool
piece_stays is (pieces.Component c) = is_other is c.index
piece_stays is (pieces.Delta d) = delta_stays is d
piece_stays is (pieces.Index i) = is_other is i
piece_stays is p = true

abbrev pub calls_stay : List ℕ → List Call → Bool
calls_stay is cs = list_all (λ c. list_all (piece_stays is) c.pieces) cs

-- none of these stands in a term, in arguments neither, and no delta there is 1 or 0
abbrev pub stays : List ℕ → Term → Bool
stays is t =
    list_all (λ c. is_other is c.index) t.others.components && list_all (delta_stays is) t.others.deltas
    && calls_stay is t.others.functions && calls_stay is t.others.word
