-- Reading lines one after another: what the rest of the lines gives, behind those that are read.
use Rattle.std.proofs.Common.{◌≡◌, ℕ, List, [], ◌∷◌, ◌++◌, Option, Some, None, Result, Ok, Err, refl}
use Rattle.std.specs.Prelude.{filter, find, not}
use Rattle.std.specs.Str.Lines.{lines}
use Rattle.form_lines.specs.Text.{PhysicalLine, has_bad_byte, is_commentary, numbered_from, unless_bad}

-- what lines from this number on give
abbrev pub read_from : ℕ → List (List ℕ) → Result (List PhysicalLine) ℕ
read_from number texts =
    let kept = filter (λ line. not (is_commentary line)) (numbered_from number texts) in
    unless_bad (find has_bad_byte kept) kept

-- the same behind lines that are read
abbrev pub behind : List PhysicalLine → Result (List PhysicalLine) ℕ → Result (List PhysicalLine) ℕ
behind done (Ok lines) = Ok (done ++ lines)
behind done (Err bad) = Err bad

abbrev pub line_of : ℕ → List ℕ → PhysicalLine
line_of number text = record { number = number; text = text }

behind_one : (line : PhysicalLine) (o : Option PhysicalLine) (lines : List PhysicalLine) → unless_bad o (line ∷ lines) ≡ behind (line ∷ []) (unless_bad o lines)
behind_one line None lines = refl
behind_one line (Some bad) lines = refl
