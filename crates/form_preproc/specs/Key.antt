-- What kind of line a line is, by its keyword.
use Rattle.std.specs.Prelude.{ℕ, suc, Bool, true, false, ◌==◌, ◌||◌, nat_eq, if◌then◌else◌, List, [], ◌∷◌, map, length, take, drop, codes}
use Rattle.std.specs.List.{prefix_len}
use Rattle.std.specs.Char.{is_ascii_alphabetic, to_ascii_lowercase}
use Rattle.std.specs.Cmp.Lexicographic.{pointwise}
use Rattle.form_lines.specs.Program.{after_blanks}
use Rattle.form_preproc.specs.declared.key.Key.{Key}
use Rattle.form_preproc.specs.declared.key.Key.TheVariants.{Plain, Do, If, Ifdef, Ifndef, Procedure, Elseif, Else, Enddo, Endif, Endprocedure, Define, Redefine, Undefine, Call, Include, Sign, Unknown}

-- the same word in any case of letters
abbrev pub is_word : List ℕ → List ℕ → Bool
is_word text word = pointwise nat_eq (map to_ascii_lowercase text) (map to_ascii_lowercase word)

-- the kind of an instruction, by the letters right after its `#`
abbrev pub key_of_word : List ℕ → Key
key_of_word word =
    if is_word word (codes "do") then Do
    else if is_word word (codes "if") then If
    else if is_word word (codes "ifdef") then Ifdef
    else if is_word word (codes "ifndef") then Ifndef
    else if is_word word (codes "procedure") then Procedure
    else if is_word word (codes "elseif") then Elseif
    else if is_word word (codes "else") then Else
    else if is_word word (codes "enddo") then Enddo
    else if is_word word (codes "endif") then Endif
    else if is_word word (codes "endprocedure") then Endprocedure
    else if is_word word (codes "define") then Define
    else if is_word word (codes "redefine") then Redefine
    else if is_word word (codes "undefine") then Undefine
    else if is_word word (codes "call") then Call
    else if is_word word (codes "include") then Include
    else Unknown

abbrev pub key_behind : List ℕ → Key
key_behind [] = Unknown
key_behind (c ∷ cs) =
    if (c == 45) || (c == 43) then Sign
    else key_of_word (take (prefix_len is_ascii_alphabetic (c ∷ cs)) (c ∷ cs))

abbrev pub key_at : List ℕ → Key
key_at [] = Plain
key_at (c ∷ cs) = if c == 35 then key_behind cs else Plain

-- An instruction is a line whose first byte that is no blank is `#`, and its keyword follows that directly, in any case of letters.
unfoldable pub key_of : List ℕ → Key
key_of text = key_at (after_blanks text)

-- how many bytes the keyword has
abbrev pub key_length : Key → ℕ
key_length Plain = 0
key_length Do = 2
key_length If = 2
key_length Ifdef = 5
key_length Ifndef = 6
key_length Procedure = 9
key_length Elseif = 6
key_length Else = 4
key_length Enddo = 5
key_length Endif = 5
key_length Endprocedure = 12
key_length Define = 6
key_length Redefine = 8
key_length Undefine = 8
key_length Call = 4
key_length Include = 7
key_length Sign = 1
key_length Unknown = 0

-- what stands behind the keyword of a line
abbrev pub behind_key : Key → List ℕ → List ℕ
behind_key key text = drop (suc (key_length key)) (after_blanks text)
