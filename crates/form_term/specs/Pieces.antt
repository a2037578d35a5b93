-- The pieces that a function's arguments are kept as, and their order.
use Rattle.std.specs.Prelude.{ℕ, ◌+◌, ◌-◌, max, Bool, true, false, List, [], ◌∷◌, count_by, if◌then◌else◌}
use Rattle.std.specs.Int.{is_negative}
use Rattle.std.specs.declared.cmp.Ordering.{Ordering}
use Rattle.form_term.specs.declared.power.Power.{Power}
use Rattle.form_term.specs.declared.power.DotPower.{DotPower}
use Rattle.form_term.specs.declared.piece.Piece.{Piece}
use Rattle.form_term.specs.declared.piece.Piece.TheVariants.{EndOfArguments, EndOfSum, Negative, NegativeDot, EndOfTerm, NonCommuting, Function, Delta, Component, PositiveDot, Positive, Imaginary, Index, Vector, Sum}
use Rattle.form_term.specs.contracts.piece.PieceOrd.TheImpl as pieces

-- The order of pieces: their kinds in the order in which `Piece` has them, then what they hold, from the left.
abbrev pub piece_order : Piece → Piece → Ordering
piece_order = pieces.ghosts.cmp

-- a power of a symbol, and one of a dot product, as a piece of a term
abbrev pub piece_of_power : Power → Piece
piece_of_power p = if is_negative p.exponent then Negative p else Positive (record { 0 = p.symbol }) p.exponent

abbrev pub piece_of_dot : DotPower → Piece
piece_of_dot d = if is_negative d.exponent then NegativeDot d else PositiveDot (record { 0 = d.left }) (record { 0 = d.right }) d.exponent

-- whether a piece counts towards the size of a term: factors but `i_`, arguments, and the terms of an argument
abbrev pub counts : Piece → Bool
counts EndOfArguments = false
counts EndOfSum = false
counts (Negative p) = true
counts (NegativeDot d) = true
counts (EndOfTerm c) = true
counts (NonCommuting f) = true
counts (Function f) = true
counts (Delta d) = true
counts (Component c) = true
counts (PositiveDot p q e) = true
counts (Positive s e) = true
counts Imaginary = false
counts (Index i) = true
counts (Vector v) = true
counts Sum = true

-- how many of these count
abbrev pub size_of_pieces : List Piece → ℕ
size_of_pieces ps = count_by counts ps

-- how many sums are open around the innermost term of these, of which `level` were open before; 0 without terms
abbrev pub deepest : ℕ → List Piece → ℕ
deepest level [] = 0
deepest level (Sum ∷ ps) = deepest (level + 1) ps
deepest level (EndOfSum ∷ ps) = deepest (level - 1) ps
deepest level (EndOfTerm c ∷ ps) = max level (deepest level ps)
deepest level (p ∷ ps) = deepest level ps
