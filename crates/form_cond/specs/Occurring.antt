-- Where a name stands. A name has one kind, so wherever one of its number stands it is that name.
use Rattle.std.specs.Prelude.{ℕ, ◌==◌, Bool, false, ◌||◌}
use Rattle.std.specs.List.{list_any}
use Rattle.form_term.specs.declared.power.Power.{Power}
use Rattle.form_term.specs.declared.power.DotPower.{DotPower}
use Rattle.form_term.specs.declared.index.Index.{Index}
use Rattle.form_term.specs.declared.index.Index.TheVariants as indices
use Rattle.form_term.specs.declared.index.Component.{Component}
use Rattle.form_term.specs.declared.index.Delta.{Delta}
use Rattle.form_term.specs.declared.piece.Piece.{Piece}
use Rattle.form_term.specs.declared.piece.Piece.TheVariants as pieces
use Rattle.form_term.specs.Term.{Term, Call, Argument, index, vector, expression}

-- a symbol with its exponent, two vectors of a dot product, an index, a vector with an index, two indices
abbrev pub in_power : ℕ → Power → Bool
in_power n p = p.symbol == n

abbrev pub in_dot : ℕ → DotPower → Bool
in_dot n d = d.left == n || d.right == n

abbrev pub in_index : ℕ → Index → Bool
in_index n (indices.Declared m) = m == n
in_index n _ = false

abbrev pub in_component : ℕ → Component → Bool
in_component n c = c.vector == n || in_index n c.index

abbrev pub in_delta : ℕ → Delta → Bool
in_delta n d = in_index n d.first || in_index n d.second

-- a piece of a function's arguments, which are flat: they have all that stands in them, at any depth
abbrev pub in_piece : ℕ → Piece → Bool
in_piece n (pieces.Negative p) = in_power n p
in_piece n (pieces.Positive s x) = s.0 == n
in_piece n (pieces.NegativeDot d) = in_dot n d
in_piece n (pieces.PositiveDot p q x) = p.0 == n || q.0 == n
in_piece n (pieces.Component c) = in_component n c
in_piece n (pieces.Delta d) = in_delta n d
in_piece n (pieces.Function f) = f == n
in_piece n (pieces.NonCommuting f) = f == n
in_piece n (pieces.Index i) = in_index n i
in_piece n (pieces.Vector v) = v == n
in_piece n _ = false

-- a function is one itself, with its arguments
abbrev pub in_call : ℕ → Call → Bool
in_call n c = c.function == n || list_any (in_piece n) c.pieces

-- Whether a name stands in a term, at any depth.
unfoldable pub occurs : ℕ → Term → Bool
occurs n t =
    list_any (in_power n) t.symbols
    || list_any (in_dot n) t.others.dots
    || list_any (in_component n) t.others.components
    || list_any (in_delta n) t.others.deltas
    || list_any (in_call n) t.others.functions
    || list_any (in_call n) t.others.word

-- in an argument: it is that index or that vector, or a term of it has the name
abbrev pub in_argument : ℕ → Argument → Bool
in_argument n (index i) = in_index n i
in_argument n (vector v) = v == n
in_argument n (expression ss) = list_any (λ s. occurs n s.term) ss
