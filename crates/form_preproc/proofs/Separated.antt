-- The parts of a list are what stands between its separators, without the blanks at both ends.
use Rattle.std.proofs.Common.{◌≡◌, ℕ, Bool, true, false, if◌then◌else◌, cond, List, [], ◌∷◌, ◌++◌, map, Some, refl, sym, ap, ◌∙◌, append_assoc, append-nil}
use Rattle.std.specs.Prelude.{◌==◌, ◌||◌, ◌&&◌, option_and_then}
use Rattle.std.specs.List.{slice_split, onto_first}
use Rattle.form_preproc.specs.Bytes.{trimmed}
use Rattle.form_preproc.specs.Parts.{is_separator, is_opening, is_closing, closing_of, with_byte, with_part, closed, step, end_of, read, parted}
use Rattle.form_preproc.specs.declared.parts.Parting.{Parting}
use Rattle.form_preproc.specs.declared.parts.Parting.TheVariants.{Commas, CommasOrBars}
use Rattle.form_preproc.specs.declared.parts.Parts.{Parts}

-- lists with this before the first
abbrev onto_front : List ℕ → List (List ℕ) → List (List ℕ)
onto_front text [] = text ∷ []
onto_front text (part ∷ parts) = (text ++ part) ∷ parts

onto_front_nil : (test : ℕ → Bool) (text : List ℕ) → onto_front [] (slice_split test text) ≡ slice_split test text
onto_front_nil test [] = refl
onto_front_nil test (x ∷ xs) = by (test x) (slice_split test xs)
  where
    by : (b : Bool) (parts : List (List ℕ)) → onto_front [] (cond b ([] ∷ parts) (onto_first x parts)) ≡ cond b ([] ∷ parts) (onto_first x parts)
    by true parts = refl
    by false [] = refl
    by false (part ∷ parts) = refl

onto_one : (text : List ℕ) (x : ℕ) (parts : List (List ℕ)) → onto_front (text ++ x ∷ []) parts ≡ onto_front text (onto_first x parts)
onto_one text x [] = refl
onto_one text x (part ∷ parts) = ap (λ t. t ∷ parts) (append_assoc text (x ∷ []) part)

module _ (parting : Parting) (opens : (c : ℕ) → is_opening parting c ≡ false) (closes : (c : ℕ) → is_closing parting c ≡ false) where
  abbrev at : List ℕ → List (List ℕ) → Parts
  at part parts = record { parting = parting; closings = []; part = part; parts = parts }

  -- a byte outside brackets
  chosen : (part : List ℕ) (parts : List (List ℕ)) (x : ℕ) (b : Bool) → is_separator parting x ≡ b → step (at part parts) x ≡ (if b then Some (with_part (at part parts)) else Some (with_byte (at part parts) x []))
  chosen part parts x b e =
      ap (λ (o : Bool). if o then Some (with_byte (at part parts) x (closing_of x ∷ [])) else (if is_closing parting x then closed (at part parts) x [] else (if is_separator parting x && true then Some (with_part (at part parts)) else Some (with_byte (at part parts) x [])))) (opens x)
      ∙ ap (λ (o : Bool). if o then closed (at part parts) x [] else (if is_separator parting x && true then Some (with_part (at part parts)) else Some (with_byte (at part parts) x []))) (closes x)
      ∙ by (is_separator parting x) b e
    where
      by : (c b : Bool) → c ≡ b → (if c && true then Some (with_part (at part parts)) else Some (with_byte (at part parts) x [])) ≡ (if b then Some (with_part (at part parts)) else Some (with_byte (at part parts) x []))
      by c b e = same c ∙ ap (λ (b : Bool). if b then Some (with_part (at part parts)) else Some (with_byte (at part parts) x [])) e
        where
          same : (c : Bool) → (if c && true then Some (with_part (at part parts)) else Some (with_byte (at part parts) x [])) ≡ (if c then Some (with_part (at part parts)) else Some (with_byte (at part parts) x []))
          same true = refl
          same false = refl

  abbrev Are_split : List ℕ → List (List ℕ) → List ℕ → Type 0
  Are_split part parts text = option_and_then end_of (read (at part parts) text) ≡ Some (parts ++ map trimmed (onto_front part (slice_split (is_separator parting) text)))

  split_step : (part : List ℕ) (parts : List (List ℕ)) (x : ℕ) (xs : List ℕ) → Are_split [] (parts ++ trimmed part ∷ []) xs → Are_split (part ++ x ∷ []) parts xs → Are_split part parts (x ∷ xs)
  unfolding read
  split_step part parts x xs ended longer = by (is_separator parting x) refl
    where
      by : (b : Bool) → is_separator parting x ≡ b → Are_split part parts (x ∷ xs)
      by true e =
          ap (λ r. option_and_then end_of (option_and_then (λ next. read next xs) r)) (chosen part parts x true e)
          ∙ ended
          ∙ ap Some (append_assoc parts (trimmed part ∷ []) (map trimmed (onto_front [] (slice_split (is_separator parting) xs))))
          ∙ ap (λ t. Some (parts ++ (trimmed part ∷ map trimmed t))) (onto_front_nil (is_separator parting) xs)
          ∙ ap (λ t. Some (parts ++ (trimmed t ∷ map trimmed (slice_split (is_separator parting) xs)))) (sym (append-nil part))
          ∙ ap (λ (b : Bool). Some (parts ++ map trimmed (onto_front part (cond b ([] ∷ slice_split (is_separator parting) xs) (onto_first x (slice_split (is_separator parting) xs)))))) (sym e)
      by false e =
          ap (λ r. option_and_then end_of (option_and_then (λ next. read next xs) r)) (chosen part parts x false e)
          ∙ longer
          ∙ ap (λ t. Some (parts ++ map trimmed t)) (onto_one part x (slice_split (is_separator parting) xs))
          ∙ ap (λ (b : Bool). Some (parts ++ map trimmed (onto_front part (cond b ([] ∷ slice_split (is_separator parting) xs) (onto_first x (slice_split (is_separator parting) xs)))))) (sym e)

  split_from : (part : List ℕ) (parts : List (List ℕ)) (text : List ℕ) → Are_split part parts text
  unfolding read
  split_from part parts [] = ap (λ t. Some (parts ++ trimmed t ∷ [])) (sym (append-nil part))
  split_from part parts (x ∷ xs) = split_step part parts x xs (split_from [] (parts ++ trimmed part ∷ []) xs) (split_from (part ++ x ∷ []) parts xs)

  split : (text : List ℕ) → parted parting text ≡ Some (map trimmed (slice_split (is_separator parting) text))
  split text = split_from [] [] text ∙ ap (λ t. Some (map trimmed t)) (onto_front_nil (is_separator parting) text)

pub split_at_commas : (text : List ℕ) → parted Commas text ≡ Some (map trimmed (slice_split (λ c. c == 44) text))
split_at_commas text = split Commas (λ c. refl) (λ c. refl) text

pub split_at_commas_or_bars : (text : List ℕ) → parted CommasOrBars text ≡ Some (map trimmed (slice_split (λ c. (c == 44) || (c == 124)) text))
split_at_commas_or_bars text = split CommasOrBars (λ c. refl) (λ c. refl) text
