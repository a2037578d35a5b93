-- ASCII is read as text.
use Rattle.std.proofs.Common.{◌≡◌, ℕ, List, Result, Ok, Err, MatchResult, refl}
use Rattle.std.specs.Borrow.{Bor}
use Rattle.std.specs.Result.{IsOk}
use Rattle.std.specs.Str.{IsAscii, IsUtf8}
use Rattle.std.proofs.lemmas.Str.{IsUtf8-from_ascii}

pub is_read : {E : Type 0} (text : List ℕ) (read : Result (Bor (List ℕ)) E) → IsAscii text
    → MatchResult read (λ s. (s.now ≡ text) × IsUtf8 text) (λ e. IsUtf8 text → ⊥) → IsOk read
is_read text (Ok s) ascii h = refl
is_read text (Err e) ascii h = absurd (h (IsUtf8-from_ascii text ascii))
