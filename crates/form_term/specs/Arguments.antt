-- The arguments of a function by its pieces: reading is what undoes writing.
use Rattle.std.specs.Prelude.{ℕ, zero, suc, ◌-◌, true, List, [], ◌∷◌, ◌++◌, length, map, take}
use Rattle.form_term.specs.declared.piece.Piece.{Piece}
use Rattle.form_term.specs.declared.piece.Piece.TheVariants as pieces
use Rattle.form_term.specs.Term.{Term, Summand, Argument, index, vector, expression, one}

-- how many sums and functions are open behind a piece, where so many are before it
abbrev pub level_behind : ℕ → Piece → ℕ
level_behind level pieces.Sum = suc level
level_behind level (pieces.Function f) = suc level
level_behind level (pieces.NonCommuting f) = suc level
level_behind level pieces.EndOfSum = level - 1
level_behind level pieces.EndOfArguments = level - 1
level_behind level p = level

-- a piece before parts: it begins the first of them where so many are open behind it, and is a part alone where none is
abbrev pub joined : Piece → ℕ → List (List Piece) → List (List Piece)
joined p zero parts = (p ∷ []) ∷ parts
joined p (suc level) [] = (p ∷ []) ∷ []
joined p (suc level) (part ∷ parts) = (p ∷ part) ∷ parts

-- the parts of pieces, before which so many sums and functions are open: the first part goes on to their end
abbrev pub parts_from : ℕ → List Piece → List (List Piece)
parts_from level [] = []
parts_from level (p ∷ ps) = joined p (level_behind level p) (parts_from (level_behind level p) ps)

-- Pieces in parts: each is a piece alone, or one that opens something, with all up to the end of that.
unfoldable pub parts_of : List Piece → List (List Piece)
parts_of ps = parts_from 0 ps

-- all but the last
abbrev pub before_last : List Piece → List Piece
before_last ps = take (length ps - 1) ps

-- a term with one factor more, which is this part
abbrev pub with_part : Term → List Piece → Term
with_part t (pieces.Imaginary ∷ rest) = record { symbols = t.symbols; others = record t.others { is_imaginary = true } }
with_part t (pieces.Negative p ∷ rest) = record { symbols = t.symbols ++ p ∷ []; others = t.others }
with_part t (pieces.Positive s x ∷ rest) = record { symbols = t.symbols ++ record { symbol = s.0; exponent = x } ∷ []; others = t.others }
with_part t (pieces.NegativeDot d ∷ rest) = record { symbols = t.symbols; others = record t.others { dots = t.others.dots ++ d ∷ [] } }
with_part t (pieces.PositiveDot p q x ∷ rest) = record { symbols = t.symbols; others = record t.others { dots = t.others.dots ++ record { left = p.0; right = q.0; exponent = x } ∷ [] } }
with_part t (pieces.Component c ∷ rest) = record { symbols = t.symbols; others = record t.others { components = t.others.components ++ c ∷ [] } }
with_part t (pieces.Delta d ∷ rest) = record { symbols = t.symbols; others = record t.others { deltas = t.others.deltas ++ d ∷ [] } }
with_part t (pieces.Function f ∷ rest) = record { symbols = t.symbols; others = record t.others { functions = t.others.functions ++ record { function = f; pieces = before_last rest } ∷ [] } }
with_part t (pieces.NonCommuting f ∷ rest) = record { symbols = t.symbols; others = record t.others { word = t.others.word ++ record { function = f; pieces = before_last rest } ∷ [] } }
with_part t part = t

-- the terms of an expression by its parts, the first of which has these factors already
abbrev pub summands_from : Term → List (List Piece) → List Summand
summands_from t [] = []
summands_from t ((pieces.EndOfTerm c ∷ rest) ∷ parts) = record { coefficient = record { numerator = c.numerator; denominator = c.denominator }; term = t } ∷ summands_from one parts
summands_from t (part ∷ parts) = summands_from (with_part t part) parts

-- the argument that a part is
abbrev pub argument_in : List Piece → Argument
argument_in (pieces.Index i ∷ rest) = index i
argument_in (pieces.Vector v ∷ rest) = vector v
argument_in (p ∷ rest) = expression (summands_from one (parts_of (before_last rest)))
argument_in [] = expression []

-- The arguments that pieces are those of.
unfoldable pub arguments_of : List Piece → List Argument
arguments_of ps = map argument_in (parts_of ps)

-- the terms of the first argument, none where that is no expression
abbrev pub first_summands : List Argument → List Summand
first_summands (expression ss ∷ args) = ss
first_summands args = []
