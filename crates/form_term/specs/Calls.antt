-- Functions by their parts.
use Rattle.std.specs.Prelude.{ℕ, min, List}
use Rattle.form_term.specs.declared.piece.Piece.{Piece}
use Rattle.form_term.specs.Term.{Call}

abbrev pub call : ℕ → List Piece → Call
call f ps = record { function = f; pieces = ps }

-- a size or a depth as a function keeps it
abbrev pub kept : ℕ → ℕ
kept n = min n 255
