-- The lines of a text, which is bytes.
use Rattle.std.specs.Prelude.{◌≡◌, ◌<◌, ℕ, length, ◌==◌, ◌||◌, ◌&&◌, suc, Bool, false, not, nat_le, IsTrue, List, [], ◌∷◌, filter, find, Option, Some, None, Result, Ok, Err}
use Rattle.std.specs.List.{list_all}
use Rattle.std.specs.Str.Lines.{lines}

-- a line as it stands in a text, without its end: its number, from 1, and its bytes
pub record PhysicalLine : Type 0 where
  pub number : ℕ
  pub text : List ℕ

abbrev pub numbered_from : ℕ → List (List ℕ) → List PhysicalLine
numbered_from number [] = []
numbered_from number (text ∷ texts) = record { number = number; text = text } ∷ numbered_from (suc number) texts

-- the lines of a text: each ends with a newline, or with a carriage return and a newline, and a last one without counts
abbrev pub physical_lines : List ℕ → List PhysicalLine
physical_lines text = numbered_from 1 (lines text)

abbrev pub begins_with : ℕ → List ℕ → Bool
begins_with byte [] = false
begins_with byte (c ∷ cs) = c == byte

-- commentary: a line with `*` in its first column
abbrev pub is_commentary : PhysicalLine → Bool
is_commentary line = begins_with 42 line.text

-- a tab, or from a space to `~`
abbrev pub is_plain_byte : ℕ → Bool
is_plain_byte c = (c == 9) || (nat_le 32 c && nat_le c 126)

-- the text has no other bytes
abbrev pub IsPlain : List ℕ → Type 0
IsPlain text = IsTrue (list_all is_plain_byte text)

abbrev pub has_other_bytes : List ℕ → Bool
has_other_bytes text = not (list_all is_plain_byte text)

abbrev pub has_bad_byte : PhysicalLine → Bool
has_bad_byte line = has_other_bytes line.text

-- the lines that aren't commentary, which may still have bad bytes
abbrev pub kept_lines : List ℕ → List PhysicalLine
kept_lines text = filter (λ line. not (is_commentary line)) (physical_lines text)

abbrev pub unless_bad : Option PhysicalLine → List PhysicalLine → Result (List PhysicalLine) ℕ
unless_bad None lines = Ok lines
unless_bad (Some line) lines = Err line.number

-- the lines that aren't commentary, or the number of the first of them that has a bad byte
abbrev pub lines_but_commentary : List ℕ → Result (List PhysicalLine) ℕ
lines_but_commentary text = unless_bad (find has_bad_byte (kept_lines text)) (kept_lines text)

-- the text begins with this line, and this rest follows that
pub record IsFirstLine (text line rest : List ℕ) : Type 0 where
  pub lines_are : lines text ≡ line ∷ lines rest
  pub shorter : length rest < length text
