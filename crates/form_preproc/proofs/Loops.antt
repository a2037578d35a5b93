-- A loop is read exactly from what is written as one.
use Rattle.std.proofs.Common.{◌≡◌, ℕ, ◌+◌, ◌≤◌, Bool, true, false, cond, List, [], ◌∷◌, ◌++◌, length, take, drop, Option, Some, None, refl, sym, ap, ap₂, ◌∙◌, subst, arith, append-nil}
use Rattle.std.specs.Prelude.{ℤ, pos, ◌==◌, ◌&&◌, not, if◌then◌else◌, Ok, Err, Result}
use Rattle.std.specs.Char.{is_ascii_alphanumeric}
use Rattle.std.specs.List.{list_all, list_any, prefix_len}
use Rattle.std.proofs.Math.ListN.{drop_of_length-le}
use Rattle.std.proofs.Math.Seq.{take-append_seam, drop-append_seam}
use Rattle.std.proofs.lemmas.Bool.{and_parts, or_parts, or_from, eqb-true}
use Rattle.std.proofs.lemmas.Option.{same_Some}
use Rattle.form_base.specs.declared.cause.Cause.{Cause}
use Rattle.form_calc.specs.Number.{is_zero, number_of}
use Rattle.form_lines.specs.Program.{is_blank, after_blanks}
use Rattle.form_preproc.specs.Braces.{calculated}
use Rattle.form_preproc.specs.Bytes.{HasNo, is_name, is_signed_number, between, trimmed}
use Rattle.form_preproc.specs.Forms as forms
use Rattle.form_preproc.specs.Forms.{IsLoopName, IsBraced, IsNotBraced, IsRange, by_one, by_step, IsLoop, IsLooped, as_written, once_calculated}
use Rattle.form_preproc.specs.Instruction.{is_brace, without_brace, listed, before_equals, behind_equals, text_turns, number_turns, ranged, counted_parts, looped_texts, over_texts, over_numbers, looped_from, looped_or, looped, or_bad}
use Rattle.form_preproc.specs.Parts.{parted, read}
use Rattle.form_preproc.specs.Putting.{and_then}
use Rattle.form_preproc.specs.declared.parts.Parting.TheVariants.{Commas, CommasOrBars}
use Rattle.form_preproc.specs.declared.turns.Turns.{Turns}
use Rattle.form_preproc.specs.declared.turns.Looped.{Looped}
use Rattle.form_preproc.proofs.Forms.{between_written, between_from, after_all, blanks_of, all_in_name, blank_in_no_name}
use Rattle.form_preproc.proofs.Included.{firm, trimmed_written, trimmed_from}

abbrev loop : List ℕ → Turns → Looped
loop name turns = record { name = name; turns = turns }

abbrev answered : Looped → Result Looped Cause
answered l = Ok l

same_Ok : (x y : Looped) → answered x ≡ answered y → x ≡ y
same_Ok x y e = ap or_this e
  where
    or_this : Result Looped Cause → Looped
    or_this (Ok z) = z
    or_this (Err cause) = x

-- ---- what stands before the first `=`, and behind it

abbrev other : ℕ → Bool
other c = not (c == 61)

equals_front : (left rest : List ℕ) → HasNo 61 left → prefix_len other rest ≡ 0 → prefix_len other (left ++ rest) ≡ length left
equals_front [] rest h none = none
equals_front (c ∷ cs) rest h none =
    let both = or_parts (c == 61) (list_any (λ c. c == 61) cs) h in
    let more : 1 + length cs ≡ length (c ∷ cs) = omega arith in
    ap (λ (b : Bool). cond (not b) (1 + prefix_len other (cs ++ rest)) 0) both.0 ∙ ap (λ (n : ℕ). 1 + n) (equals_front cs rest both.1 none) ∙ more

before_written : (left right : List ℕ) → HasNo 61 left → before_equals (left ++ 61 ∷ right) ≡ left
before_written left right h = ap (λ (n : ℕ). take n (left ++ 61 ∷ right)) (equals_front left (61 ∷ right) h refl) ∙ take-append_seam left (61 ∷ right)

behind_written : (left right : List ℕ) → HasNo 61 left → behind_equals (left ++ 61 ∷ right) ≡ after_blanks right
behind_written left right h =
    ap (λ (n : ℕ). after_blanks (drop 1 (drop n (left ++ 61 ∷ right)))) (equals_front left (61 ∷ right) h refl) ∙ ap (λ (xs : List ℕ). after_blanks (drop 1 xs)) (drop-append_seam left (61 ∷ right))

none_behind : (text : List ℕ) → HasNo 61 text → behind_equals text ≡ []
none_behind text h =
    let whole : prefix_len other text ≡ length text = ap (prefix_len other) (sym (append-nil text)) ∙ equals_front text [] h refl in
    ap (λ (xs : List ℕ). after_blanks (drop 1 xs)) (drop_of_length-le text (omega (arith, whole)))

data Split (text : List ℕ) : Type 0 where
  nowhere : HasNo 61 text → Split text
  at : (left right : List ℕ) → HasNo 61 left → text ≡ left ++ 61 ∷ right → Split text

split : (text : List ℕ) → Split text
split [] = nowhere refl
split (c ∷ cs) = by (c == 61) refl (split cs)
  where
    by : (b : Bool) → (c == 61) ≡ b → Split cs → Split (c ∷ cs)
    by true e s = at [] cs refl (ap (λ (x : ℕ). x ∷ cs) (eqb-true c 61 e))
    by false e (nowhere h) = nowhere (or_from (c == 61) (list_any (λ c. c == 61) cs) e h)
    by false e (at left right h is) = at (c ∷ left) right (or_from (c == 61) (list_any (λ c. c == 61) left) e h) (ap (λ (xs : List ℕ). c ∷ xs) is)

-- ---- names and braces

name_written : (name text : List ℕ) → IsLoopName name text → trimmed text ≡ name
name_written name text h = ap trimmed h.is ∙ trimmed_written h.before name h.after h.are_before h.are_after (firm name (some name h.named) (none name (all_in_name name h.named)))
  where
    some : (name : List ℕ) → is_name name ≡ true → 1 ≤ length name
    some [] e = absurd cc
    some (c ∷ cs) e = omega arith

    none : (text : List ℕ) → list_all is_ascii_alphanumeric text ≡ true → list_any is_blank text ≡ false
    none [] e = refl
    none (c ∷ cs) e =
        let both = and_parts (is_ascii_alphanumeric c) (list_all is_ascii_alphanumeric cs) e in
        or_from (is_blank c) (list_any is_blank cs) (by (is_blank c) refl both.0) (none cs both.1)
      where
        by : (b : Bool) → is_blank c ≡ b → is_ascii_alphanumeric c ≡ true → b ≡ false
        by true d e = let no : is_ascii_alphanumeric c ≡ false = blank_in_no_name c d in absurd cc
        by false d e = refl

name_from : (text : List ℕ) → is_name (trimmed text) ≡ true → IsLoopName (trimmed text) text
name_from text e = let t = trimmed_from text in record { before = t.before; after = t.after; are_before = t.are_before; are_after = t.are_after; named = e; is = t.is }

braced_left : (text left inner : List ℕ) → IsBraced text left inner → before_equals text ≡ left
braced_left text left inner h = ap before_equals h.is ∙ before_written left (h.blanks ++ 123 ∷ (inner ++ 125 ∷ [])) h.first

braced_written : (text left inner : List ℕ) → IsBraced text left inner → listed (behind_equals text) ≡ Some inner
braced_written text left inner h =
    ap listed (ap behind_equals h.is ∙ behind_written left (h.blanks ++ 123 ∷ (inner ++ 125 ∷ [])) h.first ∙ after_all h.blanks (123 ∷ (inner ++ 125 ∷ [])) h.are_blanks refl)
    ∙ ap without_brace (between_written 123 125 inner)
    ∙ ap (λ (b : Bool). if b then None else Some inner) h.plain

braced_from : (text inner : List ℕ) → listed (behind_equals text) ≡ Some inner → IsBraced text (before_equals text) inner
braced_from text inner e = by (split text)
  where
    held : (right : List ℕ) (o : Option (List ℕ)) → between 123 125 right ≡ o → without_brace o ≡ Some inner → (list_any is_brace inner ≡ false) × (right ≡ 123 ∷ (inner ++ 125 ∷ []))
    held right None f e = absurd cc
    held right (Some x) f e = plain (list_any is_brace x) refl e
      where
        plain : (b : Bool) → list_any is_brace x ≡ b → (if b then None else Some x) ≡ Some inner → (list_any is_brace inner ≡ false) × (right ≡ 123 ∷ (inner ++ 125 ∷ []))
        plain true d e = absurd cc
        plain false d e =
            let same = same_Some x inner e in
            (ap (list_any is_brace) (sym same) ∙ d, between_from 123 125 right x f ∙ ap (λ (xs : List ℕ). 123 ∷ (xs ++ 125 ∷ [])) same)

    by : Split text → IsBraced text (before_equals text) inner
    by (nowhere h) = let no : None ≡ Some inner = sym (ap listed (none_behind text h)) ∙ e in absurd cc
    by (at left right h is) =
        let before : before_equals text ≡ left = ap before_equals is ∙ before_written left right h in
        let behind : behind_equals text ≡ after_blanks right = ap behind_equals is ∙ behind_written left right h in
        let inside = held (after_blanks right) (between 123 125 (after_blanks right)) refl (sym (ap listed behind) ∙ e) in
        let b = blanks_of right in
        subst (λ (xs : List ℕ). IsBraced text xs inner) (sym before)
        (record { blanks = b.blanks; are_blanks = b.are; first = h; plain = inside.0; is = is ∙ ap (λ (xs : List ℕ). left ++ 61 ∷ xs) (b.is ∙ ap (λ (xs : List ℕ). b.blanks ++ xs) inside.1) })

not_braced : (text : List ℕ) → listed (behind_equals text) ≡ None → IsNotBraced text
not_braced text e left inner h = let no : Some inner ≡ None = sym (braced_written text left inner h) ∙ e in absurd cc

none_listed : (text : List ℕ) → IsNotBraced text → listed (behind_equals text) ≡ None
none_listed text h = by (listed (behind_equals text)) refl
  where
    by : (o : Option (List ℕ)) → listed (behind_equals text) ≡ o → o ≡ None
    by None e = refl
    by (Some inner) e = absurd (h (before_equals text) inner (braced_from text inner e))

-- ---- texts

texts_written : (name inner : List ℕ) (texts : List (List ℕ)) → is_name name ≡ true → parted CommasOrBars inner ≡ Some texts → over_texts name inner ≡ Ok (loop name (text_turns texts))
texts_written name inner texts named e =
    ap (λ (b : Bool). cond b (looped_texts name (parted CommasOrBars inner)) (over_texts [] [])) named ∙ ap (looped_texts name) e

record HasTexts (name inner : List ℕ) (l : Looped) : Type 0 where
  named : is_name name ≡ true
  texts : List (List ℕ)
  are : parted CommasOrBars inner ≡ Some texts
  same : loop name (text_turns texts) ≡ l

texts_from : (name inner : List ℕ) (l : Looped) → over_texts name inner ≡ Ok l → HasTexts name inner l
texts_from name inner l e = by (is_name name) refl (parted CommasOrBars inner) refl e
  where
    by : (b : Bool) → is_name name ≡ b → (o : Option (List (List ℕ))) → parted CommasOrBars inner ≡ o → cond b (looped_texts name o) (over_texts [] []) ≡ Ok l → HasTexts name inner l
    by false d o f e = absurd cc
    by true d None f e = absurd cc
    by true d (Some texts) f e = record { named = d; texts = texts; are = f; same = same_Ok (loop name (text_turns texts)) l e }

-- ---- numbers

counted_written : (name : List ℕ) (parts : List (List ℕ)) (turns : Turns) → IsRange parts turns → counted_parts name parts ≡ Ok (loop name turns)
counted_written name _ _ (by_one first last a b f l is_a is_b) = rw (f, l, is_a, is_b) refl
counted_written name _ _ (by_step first last step a b c f l s is_a is_b is_c some) = rw (f, l, s, is_a, is_b, is_c, some) refl

record HasRange (name : List ℕ) (parts : List (List ℕ)) (l : Looped) : Type 0 where
  turns : Turns
  range : IsRange parts turns
  same : loop name turns ≡ l

counted_from : (name : List ℕ) (parts : List (List ℕ)) (l : Looped) → counted_parts name parts ≡ Ok l → HasRange name parts l
counted_from name [] l e = absurd cc
counted_from name (first ∷ []) l e = absurd cc
counted_from name (first ∷ last ∷ []) l e = by (is_signed_number first) (is_signed_number last) refl refl (number_of first) (number_of last) refl refl e
  where
    by : (f g : Bool) → is_signed_number first ≡ f → is_signed_number last ≡ g → (m n : Option ℤ) → number_of first ≡ m → number_of last ≡ n
        → (if f && g then ranged name m n (Some (pos 1)) else counted_parts name []) ≡ Ok l → HasRange name (first ∷ last ∷ []) l
    by false g d h m n p q e = absurd cc
    by true false d h m n p q e = absurd cc
    by true true d h None n p q e = absurd cc
    by true true d h (Some a) None p q e = absurd cc
    by true true d h (Some a) (Some b) p q e = record { turns = _; range = by_one first last a b d h p q; same = same_Ok _ l e }
counted_from name (first ∷ last ∷ step ∷ []) l e =
    by (is_signed_number first) (is_signed_number last) (is_signed_number step) refl refl refl (number_of first) (number_of last) (number_of step) refl refl refl e
  where
    by : (f g h : Bool) → is_signed_number first ≡ f → is_signed_number last ≡ g → is_signed_number step ≡ h → (m n k : Option ℤ) → number_of first ≡ m → number_of last ≡ n → number_of step ≡ k
        → (if f && (g && h) then ranged name m n k else counted_parts name []) ≡ Ok l → HasRange name (first ∷ last ∷ step ∷ []) l
    by false g h d i j m n k p q r e = absurd cc
    by true false h d i j m n k p q r e = absurd cc
    by true true false d i j m n k p q r e = absurd cc
    by true true true d i j None n k p q r e = absurd cc
    by true true true d i j (Some a) None k p q r e = absurd cc
    by true true true d i j (Some a) (Some b) None p q r e = absurd cc
    by true true true d i j (Some a) (Some b) (Some c) p q r e = some (is_zero c) refl e
      where
        some : (z : Bool) → is_zero c ≡ z → (if z then counted_parts name [] else Ok (loop name (number_turns (Some a) (Some b) (Some c)))) ≡ Ok l → HasRange name (first ∷ last ∷ step ∷ []) l
        some true t e = absurd cc
        some false t e = record { turns = _; range = by_step first last step a b c d i j p q r t; same = same_Ok _ l e }
counted_from name (a ∷ b ∷ c ∷ d ∷ ds) l e = absurd cc

record HasNumbers (name right : List ℕ) (l : Looped) : Type 0 where
  named : is_name name ≡ true
  parts : List (List ℕ)
  are : parted Commas right ≡ Some parts
  range : HasRange name parts l

numbers_from : (name right : List ℕ) (l : Looped) → over_numbers name right ≡ Ok l → HasNumbers name right l
numbers_from name right l e = by (is_name name) refl (parted Commas right) refl e
  where
    by : (b : Bool) → is_name name ≡ b → (o : Option (List (List ℕ))) → parted Commas right ≡ o → cond b (and_then (or_bad o) (counted_parts name)) (over_numbers [] []) ≡ Ok l → HasNumbers name right l
    by false d o f e = absurd cc
    by true d None f e = absurd cc
    by true d (Some parts) f e = record { named = d; parts = parts; are = f; range = counted_from name parts l e }

numbers_written : (name right : List ℕ) (parts : List (List ℕ)) (turns : Turns) → is_name name ≡ true → parted Commas right ≡ Some parts → IsRange parts turns → over_numbers name right ≡ Ok (loop name turns)
numbers_written name right parts turns named e range =
    ap (λ (b : Bool). cond b (and_then (or_bad (parted Commas right)) (counted_parts name)) (over_numbers [] [])) named
    ∙ ap (λ (o : Option (List (List ℕ))). and_then (or_bad o) (counted_parts name)) e ∙ counted_written name parts turns range

no_numbers : (name : List ℕ) (l : Looped) → over_numbers name [] ≡ Ok l → HasNumbers name [] l → ⊥
unfolding read
no_numbers name l e h = absurd cc

-- ---- loops

loop_written : (text : List ℕ) (l : Looped) → IsLoop text l → looped_from text (listed (behind_equals text)) ≡ Ok l
loop_written text _ (forms.over_texts left inner name texts braced named are) =
    ap (looped_from text) (braced_written text left inner braced)
    ∙ ap (λ (xs : List ℕ). over_texts xs inner) (ap trimmed (braced_left text left inner braced) ∙ name_written name left named)
    ∙ texts_written name inner texts named.named are
loop_written text _ (forms.over_numbers left right name parts turns none h is named are range) =
    ap (looped_from text) (none_listed text none)
    ∙ ap₂ over_numbers (ap trimmed (ap before_equals is ∙ before_written left right h) ∙ name_written name left named) (ap behind_equals is ∙ behind_written left right h)
    ∙ numbers_written name (after_blanks right) parts turns named.named are range

loop_from : (text : List ℕ) (l : Looped) → looped_from text (listed (behind_equals text)) ≡ Ok l → IsLoop text l
loop_from text l e = by (listed (behind_equals text)) refl e
  where
    numbers : Split text → listed (behind_equals text) ≡ None → over_numbers (trimmed (before_equals text)) (behind_equals text) ≡ Ok l → IsLoop text l
    numbers (nowhere h) d e =
        let none : over_numbers (trimmed (before_equals text)) [] ≡ Ok l = ap (over_numbers (trimmed (before_equals text))) (sym (none_behind text h)) ∙ e in
        absurd (no_numbers (trimmed (before_equals text)) l none (numbers_from (trimmed (before_equals text)) [] l none))
    numbers (at left right h is) d e =
        let n = numbers_from (trimmed left) (after_blanks right) l (ap₂ over_numbers (ap trimmed (sym (ap before_equals is ∙ before_written left right h))) (sym (ap behind_equals is ∙ behind_written left right h)) ∙ e) in
        subst (IsLoop text) n.range.same (forms.over_numbers left right (trimmed left) n.parts n.range.turns (not_braced text d) h is (name_from left n.named) n.are n.range.range)

    by : (o : Option (List ℕ)) → listed (behind_equals text) ≡ o → looped_from text o ≡ Ok l → IsLoop text l
    by None d e = numbers (split text) d e
    by (Some inner) d e =
        let t = texts_from (trimmed (before_equals text)) inner l e in
        subst (IsLoop text) t.same (forms.over_texts (before_equals text) inner (trimmed (before_equals text)) t.texts (braced_from text inner d) (name_from (before_equals text) t.named) t.are)

pub looped_written : (text : List ℕ) (l : Looped) → IsLooped text l → looped text ≡ Ok l
looped_written text _ (as_written left inner known name texts braced is named are) =
    ap (looped_or text) (braced_written text left inner braced)
    ∙ ap (λ (xs : List ℕ). and_then (calculated xs) (λ known. over_texts (trimmed known) inner)) (braced_left text left inner braced)
    ∙ ap (λ (r : Result (List ℕ) Cause). and_then r (λ known. over_texts (trimmed known) inner)) is
    ∙ ap (λ (xs : List ℕ). over_texts xs inner) (name_written name known named)
    ∙ texts_written name inner texts named.named are
looped_written text l (once_calculated known _ none is loops) =
    ap (looped_or text) (none_listed text none)
    ∙ ap (λ (r : Result (List ℕ) Cause). and_then r (λ known. looped_from known (listed (behind_equals known)))) is
    ∙ loop_written known l loops

pub looped_from_text : (text : List ℕ) (l : Looped) → looped text ≡ Ok l → IsLooped text l
looped_from_text text l e = by (listed (behind_equals text)) refl e
  where
    texts : (inner : List ℕ) → listed (behind_equals text) ≡ Some inner → (r : Result (List ℕ) Cause) → calculated (before_equals text) ≡ r → and_then r (λ known. over_texts (trimmed known) inner) ≡ Ok l → IsLooped text l
    texts inner d (Err cause) f e = absurd cc
    texts inner d (Ok known) f e =
        let t = texts_from (trimmed known) inner l e in
        subst (IsLooped text) t.same (as_written (before_equals text) inner known (trimmed known) t.texts (braced_from text inner d) f (name_from known t.named) t.are)

    others : listed (behind_equals text) ≡ None → (r : Result (List ℕ) Cause) → calculated text ≡ r → and_then r (λ known. looped_from known (listed (behind_equals known))) ≡ Ok l → IsLooped text l
    others d (Err cause) f e = absurd cc
    others d (Ok known) f e = once_calculated known l (not_braced text d) f (loop_from known l e)

    by : (o : Option (List ℕ)) → listed (behind_equals text) ≡ o → looped_or text o ≡ Ok l → IsLooped text l
    by None d e = others d (calculated text) refl e
    by (Some inner) d e = texts inner d (calculated (before_equals text)) refl e
