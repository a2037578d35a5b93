-- What the lines of a program are held to.
use Rattle.std.specs.Prelude.{ℕ, ◌==◌, ◌||◌, max, if◌then◌else◌, Bool, List, [], ◌∷◌, length, map, codes, nat_eq}
use Rattle.std.specs.List.{starts_with}
use Rattle.std.specs.Char.{to_ascii_lowercase}
use Rattle.std.specs.Str.Lines.{lines}

-- the most lines that may act, and the most bytes that one of them may have
abbrev pub most_lines : ℕ
most_lines = 1000000

abbrev pub most_bytes : ℕ
most_bytes = 1048576

-- a space or a tab
abbrev pub is_blank : ℕ → Bool
is_blank c = (c == 32) || (c == 9)

abbrev pub after_blanks : List ℕ → List ℕ
after_blanks [] = []
after_blanks (c ∷ cs) = if is_blank c then after_blanks cs else c ∷ cs

-- in any case of letters
abbrev pub begins_with_end : List ℕ → Bool
begins_with_end text = starts_with nat_eq (map to_ascii_lowercase text) (codes ".end")

-- the number of the last line of a text, and 1 where it has none
abbrev pub last_line : List ℕ → ℕ
last_line text = max 1 (length (lines text))
