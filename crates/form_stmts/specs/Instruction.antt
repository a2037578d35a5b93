-- The lines that end modules.
use Rattle.std.specs.Prelude.{ℕ, ◌==◌, ◌&&◌, ◌||◌, List, [], ◌∷◌, codes, Bool, true, false, Option, Some, None, if◌then◌else◌}
use Rattle.std.specs.Char.{to_ascii_lowercase}
use Rattle.form_lines.specs.Text.{begins_with}
use Rattle.form_lines.specs.Program.{after_blanks}

-- a line whose first byte that is no blank is a period
abbrev pub begins_with_period : List ℕ → Bool
begins_with_period text = begins_with 46 (after_blanks text)

-- what stands behind this word, which is in lower case, in any case of letters
abbrev pub after_word : List ℕ → List ℕ → Option (List ℕ)
after_word [] text = Some text
after_word (letter ∷ word) [] = None
after_word (letter ∷ word) (c ∷ cs) = if to_ascii_lowercase c == letter then after_word word cs else None

abbrev pub is_empty : List ℕ → Bool
is_empty [] = true
is_empty (c ∷ cs) = false

-- nothing, `:` and any text, or `;` and blanks
abbrev pub is_ending : List ℕ → Bool
is_ending [] = true
is_ending (c ∷ cs) = (c == 58) || ((c == 59) && is_empty (after_blanks cs))

-- behind a word stand blanks and an ending
abbrev pub ends : Option (List ℕ) → Bool
ends None = false
ends (Some rest) = is_ending (after_blanks rest)

-- a module instruction: behind blanks `.sort` or `.end` in any case of letters, then blanks and an ending
abbrev pub is_module_instruction : List ℕ → Bool
is_module_instruction text = ends (after_word (codes ".sort") (after_blanks text)) || ends (after_word (codes ".end") (after_blanks text))
