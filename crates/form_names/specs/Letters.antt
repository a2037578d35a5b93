-- Names of one letter by a table.
use Rattle.std.specs.Prelude.{◌≡◌, ◌<◌, ℕ, suc, List, [], ◌∷◌, set, get_or, Option, Some, None}
use Rattle.form_names.specs.Names.{Entry, lookup}

-- an Id as the table has it, and 0 where a name doesn't stand
abbrev pub number_of : Option ℕ → ℕ
number_of None = 0
number_of (Some id) = suc id

-- the table with a further name of this number
abbrev pub noted : List ℕ → List ℕ → ℕ → List ℕ
noted numbers [] number = numbers
noted numbers (letter ∷ []) number = set numbers letter number
noted numbers (letter ∷ c ∷ cs) number = numbers

-- the table has each name of one letter
abbrev pub IsTable : List ℕ → List Entry → Type 0
IsTable numbers entries = (letter : ℕ) → letter < 256 → get_or numbers letter 0 ≡ number_of (lookup entries (letter ∷ []))
