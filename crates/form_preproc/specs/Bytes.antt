-- Blanks, names and quotes in a line.
use Rattle.std.specs.Prelude.{◌≡◌, ℕ, ◌-◌, Bool, false, ◌==◌, ◌||◌, ◌&&◌, nat_le, if◌then◌else◌, List, [], ◌∷◌, length, take, drop, reverse, slice_index, Option, Some, None}
use Rattle.std.specs.List.{list_all, list_any, prefix_len}
use Rattle.std.specs.Char.{is_ascii_alphabetic, is_ascii_alphanumeric}
use Rattle.form_lines.specs.Program.{after_blanks}

-- no byte of the text is this one
abbrev pub HasNo : ℕ → List ℕ → Type 0
HasNo byte text = list_any (λ c. c == byte) text ≡ false

-- without the blanks at its end
abbrev pub before_blanks : List ℕ → List ℕ
before_blanks text = reverse (after_blanks (reverse text))

-- without the blanks at both ends
abbrev pub trimmed : List ℕ → List ℕ
trimmed text = before_blanks (after_blanks text)

-- a letter, then letters and digits
abbrev pub is_name : List ℕ → Bool
is_name [] = false
is_name (c ∷ cs) = is_ascii_alphabetic c && list_all is_ascii_alphanumeric cs

-- the name at the front of a text, and what follows it after blanks
abbrev pub named : List ℕ → Option (List ℕ × List ℕ)
named text =
    let size = prefix_len is_ascii_alphanumeric text in
    if is_name (take size text) then Some (take size text, after_blanks (drop size text)) else None

-- what stands between an opening at the front and a closing at the end
abbrev pub between : ℕ → ℕ → List ℕ → Option (List ℕ)
between opening closing text =
    if nat_le 2 (length text) && ((slice_index text 0 == opening) && (slice_index text (length text - 1) == closing))
    then Some (take (length text - 2) (drop 1 text)) else None

abbrev pub is_digit : ℕ → Bool
is_digit c = nat_le 48 c && nat_le c 57

-- a sign, if there is one, and digits
abbrev pub are_digits : List ℕ → Bool
are_digits [] = false
are_digits (c ∷ cs) = list_all is_digit (c ∷ cs)

abbrev pub is_sign : ℕ → Bool
is_sign c = (c == 43) || (c == 45)

abbrev pub is_signed_number : List ℕ → Bool
is_signed_number [] = false
is_signed_number (c ∷ cs) = if is_sign c then are_digits cs else are_digits (c ∷ cs)
