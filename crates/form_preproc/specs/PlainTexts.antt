-- Texts and lines of plain bytes.
use Rattle.std.specs.Prelude.{ℕ, List, [], ◌∷◌}
use Rattle.form_lines.specs.Text.{PhysicalLine, IsPlain}

abbrev pub ArePlain : List (List ℕ) → Type 0
ArePlain [] = Unit {0}
ArePlain (text ∷ texts) = IsPlain text × ArePlain texts

-- the lines of a text
abbrev pub LinesArePlain : List PhysicalLine → Type 0
LinesArePlain [] = Unit {0}
LinesArePlain (line ∷ lines) = IsPlain line.text × LinesArePlain lines
