-- How many parentheses are open behind pieces, where no more than 64 are open anywhere in them.
use Rattle.std.specs.Prelude.{ℕ, ◌+◌, ◌-◌, nat_lt, List, [], ◌∷◌, Option, Some, None, option_and_then, if◌then◌else◌}
use Rattle.form_ast.specs.declared.expr.Piece.{Piece}
use Rattle.form_ast.specs.declared.expr.Piece.TheVariants as pieces
use Rattle.form_ast.specs.Lawful.{most_open}

-- where a further one may be open, so many are open then
abbrev pub with_room : ℕ → ℕ → Option ℕ
with_room opened behind = if nat_lt opened most_open then Some behind else None

-- one piece further: `d_` and a power in parentheses close what they open
abbrev pub opened_behind : ℕ → Piece → Option ℕ
opened_behind opened (pieces.Delta link spot) = with_room opened opened
opened_behind opened (pieces.Call link n) = with_room opened (opened + 1)
opened_behind opened (pieces.Open link) = with_room opened (opened + 1)
opened_behind opened pieces.EndOfCall = Some (opened - 1)
opened_behind opened pieces.Close = Some (opened - 1)
opened_behind opened (pieces.Raised is_parenthesized sign n) = if is_parenthesized then with_room opened opened else Some opened
opened_behind opened _ = Some opened

unfoldable pub opened_by : ℕ → List Piece → Option ℕ
opened_by opened [] = Some opened
opened_by opened (p ∷ rest) = option_and_then (λ behind. opened_by behind rest) (opened_behind opened p)
