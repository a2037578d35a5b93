-- What the reading of terms from their parts asks for.
use Rattle.std.specs.Prelude.{ℕ, Bool, true, false, List, [], ◌∷◌, length, Option, Some, None}
use Rattle.form_term.specs.declared.piece.Piece.{Piece}
use Rattle.form_term.specs.declared.piece.Coefficient.{Coefficient}
use Rattle.form_term.specs.declared.piece.Piece.TheVariants as pieces
use Rattle.form_term.specs.Term.{IsCall}
use Rattle.form_term.specs.Arguments.{before_last}

-- a part that is a function is lawful
abbrev pub IsLawfulPart : List Piece → Type 0
IsLawfulPart (pieces.Function f ∷ rest) = IsCall (record { function = f; pieces = before_last rest })
IsLawfulPart (pieces.NonCommuting f ∷ rest) = IsCall (record { function = f; pieces = before_last rest })
IsLawfulPart part = Unit {0}

-- the coefficient of the term that a part ends
abbrev pub end_in : List Piece → Option Coefficient
end_in (pieces.EndOfTerm c ∷ rest) = Some c
end_in part = None

-- how many pieces the first part has
abbrev pub first_length : List (List Piece) → ℕ
first_length [] = 0
first_length (part ∷ parts) = length part

-- whether a sum begins here
abbrev pub begins_sum : List Piece → Bool
begins_sum (pieces.Sum ∷ ps) = true
begins_sum ps = false

-- the coefficient of an argument that is a number
abbrev pub coefficient_of : List Piece → Option Coefficient
coefficient_of (pieces.Sum ∷ pieces.EndOfTerm c ∷ pieces.EndOfSum ∷ []) = Some c
coefficient_of ps = None
