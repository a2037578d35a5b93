-- The texts of a map from names to bytes, as a finite map.
use Rattle.std.specs.Prelude.{ℕ, List, [], ◌∷◌, String, Vec, string_bytes}
use Rattle.std.specs.FinMap as map
use Rattle.form_outside.specs.Texts.{Texts}
use Rattle.form_mem.specs.declared.text_map.TextMap.{TextMap}

-- the texts under these names
abbrev pub texts_of : {A B : Type 0} → List (String A × Vec ℕ B) → Texts
texts_of [] = map.empty
texts_of (entry ∷ entries) = map.insert (texts_of entries) (string_bytes entry.0) entry.1.items

-- the texts that are kept
abbrev pub kept_in : TextMap → Texts
kept_in texts = texts_of texts.entries.entries
