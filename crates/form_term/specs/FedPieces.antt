-- What the pieces of a function's arguments feed to a hasher.
use Rattle.std.specs.Prelude.{ℕ, ◌+◌, ◌*◌, ◌^◌, ◌==◌, List, [], ◌++◌, if◌then◌else◌}
use Rattle.std.specs.Int.{w32, cast_unsigned}
use Rattle.std.specs.Hash as fed
use Rattle.form_term.specs.declared.power.Power.{Power}
use Rattle.form_term.specs.declared.piece.Coefficient.{Coefficient}
use Rattle.form_term.specs.declared.piece.Piece.{Piece}
use Rattle.form_term.specs.declared.piece.Piece.TheVariants.{EndOfArguments, EndOfSum, Negative, NegativeDot, EndOfTerm, NonCommuting, Function, Delta, Component, PositiveDot, Positive, Imaginary, Index, Vector, Sum}
use Rattle.form_term.specs.contracts.power.DotPowerHash.TheImpl as dots
use Rattle.form_term.specs.contracts.index.IndexHash.TheImpl as indices
use Rattle.form_term.specs.contracts.index.ComponentHash.TheImpl as components
use Rattle.form_term.specs.contracts.index.DeltaHash.TheImpl as deltas

-- a symbol and its exponent as one number
abbrev pub packed : Power → ℕ
packed p = p.symbol * 2 ^ 32 + cast_unsigned w32 p.exponent

abbrev pub fed_power : Power → List (List ℕ)
fed_power p = fed.u64 (packed p)

-- the numerator, and the denominator where it isn't 1
abbrev pub fed_coefficient : Coefficient → List (List ℕ)
fed_coefficient c = fed.i128 c.numerator ++ (if c.denominator == 1 then [] else fed.u128 c.denominator)

-- what a piece holds, where that is a name 4 more than its number, and where it holds nothing a number below 4 for its kind
abbrev pub fed_piece : Piece → List (List ℕ)
fed_piece EndOfArguments = fed.u64 0
fed_piece EndOfSum = fed.u64 1
fed_piece (Negative p) = fed_power p
fed_piece (NegativeDot d) = dots.ghosts.hash_input d
fed_piece (EndOfTerm c) = fed_coefficient c
fed_piece (NonCommuting f) = fed.u64 (f + 4)
fed_piece (Function f) = fed.u64 (f + 4)
fed_piece (Delta d) = deltas.ghosts.hash_input d
fed_piece (Component c) = components.ghosts.hash_input c
fed_piece (PositiveDot p q x) = fed.u64 (p.0 + 4) ++ fed_power (record { symbol = q.0; exponent = x })
fed_piece (Positive p x) = fed_power (record { symbol = p.0; exponent = x })
fed_piece Imaginary = fed.u64 2
fed_piece (Index i) = indices.ghosts.hash_input i
fed_piece (Vector v) = fed.u64 (v + 4)
fed_piece Sum = fed.u64 3
