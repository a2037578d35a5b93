-- The words that a value begins with.
use Rattle.std.specs.Prelude.{ℕ, List, codes, Option, Some, None, if◌then◌else◌}
use Rattle.std.specs.Str.{str_eq_ignore_ascii_case}
use Rattle.form_conditions.specs.declared.word.Word.{Word}
use Rattle.form_conditions.specs.declared.word.Word.TheVariants.{Coefficient, Count, Match, Occurs}

-- the word that a name is, in any case of letters
abbrev pub word_of : List ℕ → Option Word
word_of name =
    if str_eq_ignore_ascii_case name (codes "coefficient") then Some Coefficient
    else if str_eq_ignore_ascii_case name (codes "count") then Some Count
    else if str_eq_ignore_ascii_case name (codes "match") then Some Match
    else if str_eq_ignore_ascii_case name (codes "occurs") then Some Occurs
    else None
