-- Brackets in the arguments of a call: round ones, square ones and braces.
use Rattle.std.specs.Prelude.{◌≡◌, ℕ, true, false, List, [], ◌∷◌, ◌++◌}
use Rattle.form_preproc.specs.Parts.{is_opening, is_closing, is_separator, closing_of}
use Rattle.form_preproc.specs.declared.parts.Parting.TheVariants.{Arguments}

-- A text whose brackets fit together: behind one that opens stands such a text, and then the one that closes it.
pub data IsBracketed : List ℕ → Type 0 where
  nothing : IsBracketed []
  plain : (c : ℕ) (text : List ℕ) → is_opening Arguments c ≡ false → is_closing Arguments c ≡ false → IsBracketed text → IsBracketed (c ∷ text)
  within : (c : ℕ) (held text : List ℕ) → is_opening Arguments c ≡ true → IsBracketed held → IsBracketed text → IsBracketed (c ∷ (held ++ closing_of c ∷ text))

-- one in which a comma stands within brackets alone
pub data IsOnePart : List ℕ → Type 0 where
  no_more : IsOnePart []
  outside : (c : ℕ) (text : List ℕ) → is_opening Arguments c ≡ false → is_closing Arguments c ≡ false → is_separator Arguments c ≡ false → IsOnePart text → IsOnePart (c ∷ text)
  inside : (c : ℕ) (held text : List ℕ) → is_opening Arguments c ≡ true → IsBracketed held → IsOnePart text → IsOnePart (c ∷ (held ++ closing_of c ∷ text))
