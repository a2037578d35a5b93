-- How instructions are written behind their keywords.
use Rattle.std.specs.Prelude.{◌≡◌, ◌≤◌, ℕ, ℤ, pos, ◌==◌, true, false, List, [], ◌∷◌, ◌++◌, length, take, Some, Ok}
use Rattle.std.specs.List.{list_all, list_any}
use Rattle.form_calc.specs.Number.{is_zero, number_of}
use Rattle.form_lines.specs.Program.{is_blank, after_blanks}
use Rattle.form_preproc.specs.Braces.{calculated}
use Rattle.form_preproc.specs.Bytes.{HasNo, is_name, is_sign, is_signed_number}
use Rattle.form_preproc.specs.Instruction.{is_outside_quotes, is_brace, text_turns, number_turns}
use Rattle.form_preproc.specs.Parts.{parted}
use Rattle.form_preproc.specs.declared.instruction.Head.{Head}
use Rattle.form_preproc.specs.declared.parts.Parting.{Parting}
use Rattle.form_preproc.specs.declared.parts.Parting.TheVariants.{Commas, CommasOrBars}
use Rattle.form_preproc.specs.declared.turns.Turns.{Turns}
use Rattle.form_preproc.specs.declared.turns.Looped.{Looped}

abbrev pub AreBlanks : List ℕ → Type 0
AreBlanks text = list_all is_blank text ≡ true

-- a name, blanks, and a text in quotes
pub record IsDefinition (text name value : List ℕ) : Type 0 where
  pub blanks : List ℕ
  pub are_blanks : AreBlanks blanks
  pub named : is_name name ≡ true
  pub is : text ≡ name ++ (blanks ++ 34 ∷ (value ++ 34 ∷ []))

-- a name with blanks alone behind it, or with blanks and then parts in parentheses
pub data IsHead (parting : Parting) : List ℕ → Head → Type 0 where
  bare : (name blanks : List ℕ) → is_name name ≡ true → AreBlanks blanks → IsHead parting (name ++ blanks) (record { name = name; parts = [] })
  with_parts : (name blanks inner : List ℕ) (parts : List (List ℕ)) → is_name name ≡ true → AreBlanks blanks → parted parting inner ≡ Some parts
      → IsHead parting (name ++ (blanks ++ 40 ∷ (inner ++ 41 ∷ []))) (record { name = name; parts = parts })

-- a name alone or in the quotes of variables
pub data IsAsked (name : List ℕ) : List ℕ → Type 0 where
  alone : IsAsked name name
  quoted : IsAsked name (96 ∷ (name ++ 39 ∷ []))

-- the name of a text: in quotes, or without them where neither a blank nor a quote stands in it
pub data IsTextName (name : List ℕ) : List ℕ → Type 0 where
  bare : list_any is_outside_quotes name ≡ false → IsTextName name name
  in_quotes : list_any (λ c. c == 34) name ≡ false → IsTextName name (34 ∷ (name ++ 34 ∷ []))

-- such a name, which isn't empty, with blanks around it
pub record IsNamedText (name text : List ℕ) : Type 0 where
  pub before : List ℕ
  pub written : List ℕ
  pub after : List ℕ
  pub are_before : AreBlanks before
  pub are_after : AreBlanks after
  pub some : 1 ≤ length name
  pub named : IsTextName name written
  pub is : text ≡ before ++ (written ++ after)

-- with a sign in front, or without
pub data IsIncluded (name : List ℕ) : List ℕ → Type 0 where
  signed : (c : ℕ) (rest : List ℕ) → is_sign c ≡ true → IsNamedText name rest → IsIncluded name (c ∷ rest)
  unsigned : (text : List ℕ) → list_any is_sign (take 1 text) ≡ false → IsNamedText name text → IsIncluded name text

-- a name with blanks around it
pub record IsLoopName (name text : List ℕ) : Type 0 where
  pub before : List ℕ
  pub after : List ℕ
  pub are_before : AreBlanks before
  pub are_after : AreBlanks after
  pub named : is_name name ≡ true
  pub is : text ≡ before ++ (name ++ after)

-- behind the first `=` and blanks stand braces, with none inside, and nothing behind them
pub record IsBraced (text left inner : List ℕ) : Type 0 where
  pub blanks : List ℕ
  pub are_blanks : AreBlanks blanks
  pub first : HasNo 61 left
  pub plain : list_any is_brace inner ≡ false
  pub is : text ≡ left ++ 61 ∷ (blanks ++ 123 ∷ (inner ++ 125 ∷ []))

abbrev pub IsNotBraced : List ℕ → Type 0
IsNotBraced text = (left inner : List ℕ) → IsBraced text left inner → ⊥

-- a first and a last number, each in range, and a step that isn't 0; 1 where it isn't written
pub data IsRange : List (List ℕ) → Turns → Type 0 where
  by_one : (first last : List ℕ) (a b : ℤ) → is_signed_number first ≡ true → is_signed_number last ≡ true → number_of first ≡ Some a → number_of last ≡ Some b
      → IsRange (first ∷ last ∷ []) (number_turns (Some a) (Some b) (Some (pos 1)))
  by_step : (first last step : List ℕ) (a b c : ℤ) → is_signed_number first ≡ true → is_signed_number last ≡ true → is_signed_number step ≡ true
      → number_of first ≡ Some a → number_of last ≡ Some b → number_of step ≡ Some c → is_zero c ≡ false
      → IsRange (first ∷ last ∷ step ∷ []) (number_turns (Some a) (Some b) (Some c))

-- a name, `=`, and texts in braces or numbers
pub data IsLoop (text : List ℕ) : Looped → Type 0 where
  over_texts : (left inner name : List ℕ) (texts : List (List ℕ)) → IsBraced text left inner → IsLoopName name left → parted CommasOrBars inner ≡ Some texts
      → IsLoop text (record { name = name; turns = text_turns texts })
  over_numbers : (left right name : List ℕ) (parts : List (List ℕ)) (turns : Turns) → IsNotBraced text → HasNo 61 left → text ≡ left ++ 61 ∷ right → IsLoopName name left
      → parted Commas (after_blanks right) ≡ Some parts → IsRange parts turns → IsLoop text (record { name = name; turns = turns })

-- Texts in braces stand as they are written, and only what is left of them is calculated; all else is calculated first.
pub data IsLooped (text : List ℕ) : Looped → Type 0 where
  as_written : (left inner known name : List ℕ) (texts : List (List ℕ)) → IsBraced text left inner → calculated left ≡ Ok known → IsLoopName name known
      → parted CommasOrBars inner ≡ Some texts → IsLooped text (record { name = name; turns = text_turns texts })
  once_calculated : (known : List ℕ) (l : Looped) → IsNotBraced text → calculated text ≡ Ok known → IsLoop known l → IsLooped text l
