-- What is read at the front of a text is written as such a token is.
use Rattle.std.proofs.Common.{◌≡◌, ◌≢◌, inl, inr, ℕ, zero, suc, ◌+◌, ◌<◌, ◌≤◌, Bool, true, false, eqb, List, [], ◌∷◌, ◌++◌, length, take, drop, get_or, refl, sym, ap, subst, ◌∙◌, arith}
use Rattle.std.specs.Prelude.{Option, Some, None, position, not, All}
use Rattle.std.specs.Char.{is_ascii_digit, is_ascii_alphabetic, is_ascii_alphanumeric}
use Rattle.std.proofs.Math.Seq.{take-add, take-suc, take-length}
use Rattle.std.proofs.lemmas.Bool.{eqb-true, eqb-false, not-true, not-false}
use Rattle.std.proofs.lemmas.List.{length-drop, length-take}
use Rattle.std.proofs.lemmas.List.Elements.{All-weaker, All-tail}
use Rattle.form_lexer.specs.declared.mark.Mark as marks
use Rattle.form_lexer.specs.declared.shape.Shape.{Shape}
use Rattle.form_lexer.specs.declared.shape.Shape.TheVariants as shapes
use Rattle.form_lexer.specs.Tokens.{IsWord, IsBracketed, IsUnderscored, IsWritten, HasNoClosing, is_blank, mark_text}
use Rattle.form_lexer.specs.Reading.{kind_of, front, token_at, number_at, word_at, word_of, bracket_at, closed_at, mark_at, or_single, double_mark, single_mark, underscored}
use Rattle.form_lexer.proofs.Classes.{at_digit, at_letter, at_opening, at_other, letter_is_alphanumeric, not_alphanumeric}
use Rattle.form_lexer.proofs.Complete.{word_alone, word_and_more}
use Rattle.form_lexer.proofs.Fronts.{front_within, front_passes, front_stops, position_found, position_missed}
use Rattle.form_lexer.proofs.Marks.{IsFound, found, not_found, single_is, double_is, mark_again}

-- what is read at the front of the text is a token's text
pub record IsFront (text : List ℕ) (read : Shape × ℕ) : Type 0 where
  pub some : 0 < read.1
  pub within : read.1 ≤ length text
  pub written : IsWritten (kind_of read.0 (take read.1 text)) (take read.1 text)

not_empty : (n : ℕ) (text : List ℕ) → 0 < n → n ≤ length text → take n text ≢ []
not_empty n text some within e = absurd (omega (arith, length-take n text, ap length e))

front_some : (p : ℕ → Bool) (c : ℕ) (cs : List ℕ) → p c ≡ true → front p (c ∷ cs) ≡ suc (front p cs)
front_some p c cs e = rw e (omega arith)

number_front : (c : ℕ) (cs : List ℕ) → is_ascii_digit c ≡ true → IsFront (c ∷ cs) (number_at (c ∷ cs))
unfolding number_at
number_front c cs d =
    let some : 0 < front is_ascii_digit (c ∷ cs) = omega (arith, front_some is_ascii_digit c cs d) in
    let within = front_within is_ascii_digit (c ∷ cs) in
    record {
      some = some;
      within = within;
      written = (front_passes is_ascii_digit (c ∷ cs), not_empty (front is_ascii_digit (c ∷ cs)) (c ∷ cs) some within, refl);
    }

word_front : (c : ℕ) (cs : List ℕ) (n : ℕ) → is_ascii_alphabetic c ≡ true → n ≡ suc (front is_ascii_alphanumeric cs) → IsWord (take n (c ∷ cs))
word_front c cs n a e = subst (λ (k : ℕ). IsWord (take k (c ∷ cs))) (sym e) (a, front_passes is_ascii_alphanumeric cs)

underscored_front : (text : List ℕ) (l u : ℕ) → IsWord (take l text) → All (λ c. c ≡ 95) (take u (drop l text)) → 0 < u → u ≤ length (drop l text) → IsUnderscored (take (l + u) text)
underscored_front text l u is_word only some within = record {
  word = take l text;
  underscores = take u (drop l text);
  is_word = is_word;
  only = only;
  some = not_empty u (drop l text) some within;
  text_is = take-add l u text;
}

underscored_written : (word : List ℕ) → IsUnderscored word → IsWritten (kind_of (underscored word) word) word
underscored_written word h = by_found (underscored word) refl (found word) where
  by_found : (s : Shape) → underscored word ≡ s → IsFound word s → IsWritten (kind_of s word) word
  by_found s e (inl stray) = rw stray (inl (h, not_found word (e ∙ stray)))
  by_found s e (inr b) = rw b.1 b.2

front_is : (text : List ℕ) (read other : Shape × ℕ) → read ≡ other → IsFront text other → IsFront text read
front_is text read other e h = subst (IsFront text) (sym e) h

word_front_of : (c : ℕ) (cs : List ℕ) (u : ℕ) → is_ascii_alphabetic c ≡ true → front (λ d. eqb d 95) (drop (front is_ascii_alphanumeric (c ∷ cs)) (c ∷ cs)) ≡ u
    → IsFront (c ∷ cs) (word_of (front is_ascii_alphanumeric (c ∷ cs)) u (c ∷ cs))
word_front_of c cs zero a f =
    let l : ℕ = front is_ascii_alphanumeric (c ∷ cs) in
    let size : l ≡ suc (front is_ascii_alphanumeric cs) = front_some is_ascii_alphanumeric c cs (letter_is_alphanumeric c a) in
    front_is (c ∷ cs) (word_of l zero (c ∷ cs)) (shapes.Name, l) (word_alone l (c ∷ cs))
    (record { some = omega arith; within = front_within is_ascii_alphanumeric (c ∷ cs); written = (refl, inl (word_front c cs l a size)) })
word_front_of c cs (suc v) a f =
    let text : List ℕ = c ∷ cs in
    let l : ℕ = front is_ascii_alphanumeric text in
    let size : l ≡ suc (front is_ascii_alphanumeric cs) = front_some is_ascii_alphanumeric c cs (letter_is_alphanumeric c a) in
    let rest : List ℕ = drop l text in
    let fits : suc v ≤ length rest = omega (arith, front_within (λ d. eqb d 95) rest) in
    let all_fits : l + suc v ≤ length text = omega (arith, length-drop l text, front_within is_ascii_alphanumeric text) in
    let only : All (λ d. d ≡ 95) (take (suc v) rest) =
    subst (λ (n : ℕ). All (λ d. d ≡ 95) (take n rest)) f
    (All-weaker (λ d. eqb d 95 ≡ true) (λ d. d ≡ 95) (λ d e. eqb-true d 95 e) (take (front (λ d. eqb d 95) rest) rest) (front_passes (λ d. eqb d 95) rest)) in
    let is : IsUnderscored (take (l + suc v) text) = underscored_front text l (suc v) (word_front c cs l a size) only (omega arith) fits in
    front_is text (word_of l (suc v) text) (underscored (take (l + suc v) text), l + suc v) (word_and_more l (suc v) text (omega arith))
    (record { some = omega arith; within = all_fits; written = underscored_written (take (l + suc v) text) is })

closing_none : (c : ℕ) → not (eqb c 93) ≡ true → c ≢ 93
closing_none c e = eqb-false c 93 (not-true (eqb c 93) e)

-- a bracket that is closed after so many characters
bracketed_front : (cs : List ℕ) (m : ℕ) → front (λ c. not (eqb c 93)) cs ≡ m → m < length cs → IsBracketed (91 ∷ take (suc m) cs)
bracketed_front cs m e lt =
    let here : m < length cs = lt in
    let last : get_or cs m 0 ≡ 93 = eqb-true (get_or cs m 0) 93 (not-false (eqb (get_or cs m 0) 93) (subst (λ (n : ℕ). not (eqb (get_or cs n 0) 93) ≡ false) e (front_stops (λ c. not (eqb c 93)) cs 0 (omega (arith, e))))) in
    record {
      inner = take m cs;
      no_closing = subst (λ (n : ℕ). HasNoClosing (take n cs)) e (All-weaker (λ c. not (eqb c 93) ≡ true) (λ c. c ≢ 93) closing_none (take (front (λ c. not (eqb c 93)) cs) cs) (front_passes (λ c. not (eqb c 93)) cs));
      text_is = ap (λ (t : List ℕ). 91 ∷ t) (take-suc cs m 0 lt ∙ ap (λ (d : ℕ). take m cs ++ d ∷ []) last);
    }

bracket_front : (cs : List ℕ) → IsFront (91 ∷ cs) (bracket_at (91 ∷ cs))
unfolding bracket_at
bracket_front cs = by_place (position (λ c. eqb c 93) (91 ∷ cs)) refl where
  by_place : (place : Option ℕ) → position (λ c. eqb c 93) (91 ∷ cs) ≡ place → IsFront (91 ∷ cs) (closed_at place (91 ∷ cs))
  by_place (Some n) e =
      let found = position_found (λ c. eqb c 93) (91 ∷ cs) n e in
      let m : ℕ = front (λ c. not (eqb c 93)) cs in
      let size : n ≡ suc m = sym found.0 ∙ front_some (λ c. not (eqb c 93)) 91 cs refl in
      let end : n + 1 ≡ suc (suc m) = omega arith in
      let text : take (n + 1) (91 ∷ cs) ≡ 91 ∷ take (suc m) cs = ap (λ k. take k (91 ∷ cs)) end in
      record { some = omega arith; within = omega (arith, found.1); written = (refl, inr (subst IsBracketed (sym text) (bracketed_front cs m refl (omega (arith, found.1))))) }
  by_place None e =
      let text : take (length (91 ∷ cs)) (91 ∷ cs) ≡ 91 ∷ cs = take-length (91 ∷ cs) in
      let none : HasNoClosing cs = All-weaker (λ c. not (eqb c 93) ≡ true) (λ c. c ≢ 93) closing_none cs (All-tail (λ c. not (eqb c 93) ≡ true) 91 cs (position_missed (λ c. eqb c 93) (91 ∷ cs) e)) in
      record { some = omega arith; within = omega arith; written = inr (inl (record { inner = cs; no_closing = none; text_is = text })) }

no_single : (c : ℕ) → single_mark c ≡ None → mark_at (c ∷ []) ≡ (shapes.Stray, 1)
unfolding mark_at
no_single c e = rw e refl

single_front : (c : ℕ) (cs : List ℕ) → is_blank c ≡ false → is_ascii_alphanumeric c ≡ false → c ≢ 91 → IsFront (c ∷ cs) (or_single None c)
single_front c cs blank word opening = by_mark (single_mark c) refl where
  no_mark : single_mark c ≡ None → (m : marks.Mark) → mark_text m ≢ c ∷ []
  no_mark e m text =
      let read : shapes.Mark m ≡ shapes.Stray = ap (λ (r : Shape × ℕ). r.0) (sym (mark_again m) ∙ ap token_at text ∙ at_other c [] word opening ∙ no_single c e) in
      cc

  by_mark : (o : Option marks.Mark) → single_mark c ≡ o → IsFront (c ∷ cs) (or_single None c)
  by_mark (Some m) e = rw e (record { some = omega arith; within = omega arith; written = sym (single_is c m e) })
  by_mark None e = rw e (record { some = omega arith; within = omega arith; written = inr (inr (record { character = c; no_blank = blank; no_word = word; no_opening = opening; no_mark = no_mark e; text_is = refl })) })

mark_front : (c : ℕ) (cs : List ℕ) → is_blank c ≡ false → is_ascii_alphanumeric c ≡ false → c ≢ 91 → IsFront (c ∷ cs) (mark_at (c ∷ cs))
unfolding mark_at
mark_front c [] blank word opening = single_front c [] blank word opening
mark_front c (d ∷ more) blank word opening = by_mark (double_mark c d) refl where
  by_mark : (o : Option marks.Mark) → double_mark c d ≡ o → IsFront (c ∷ d ∷ more) (or_single o c)
  by_mark (Some m) e = record { some = omega arith; within = omega arith; written = sym (double_is c d m e) }
  by_mark None e = single_front c (d ∷ more) blank word opening

word_front_at : (c : ℕ) (cs : List ℕ) → is_ascii_alphabetic c ≡ true → IsFront (c ∷ cs) (word_at (c ∷ cs))
unfolding word_at
word_front_at c cs a = word_front_of c cs (front (λ d. eqb d 95) (drop (front is_ascii_alphanumeric (c ∷ cs)) (c ∷ cs))) a refl

-- what is read at the front of a text that begins with no blank is a token
pub token_front : (c : ℕ) (cs : List ℕ) → is_blank c ≡ false → IsFront (c ∷ cs) (token_at (c ∷ cs))
token_front c cs blank = by_digit (is_ascii_digit c) refl where
  by_opening : (b : Bool) → eqb c 91 ≡ b → is_ascii_digit c ≡ false → is_ascii_alphabetic c ≡ false → IsFront (c ∷ cs) (token_at (c ∷ cs))
  by_opening true e d a = subst (λ (k : ℕ). IsFront (k ∷ cs) (token_at (k ∷ cs))) (sym (eqb-true c 91 e)) (front_is (91 ∷ cs) (token_at (91 ∷ cs)) (bracket_at (91 ∷ cs)) (at_opening cs) (bracket_front cs))
  by_opening false e d a =
      let word = not_alphanumeric c d a in
      let other = eqb-false c 91 e in
      front_is (c ∷ cs) (token_at (c ∷ cs)) (mark_at (c ∷ cs)) (at_other c cs word other) (mark_front c cs blank word other)

  by_letter : (b : Bool) → is_ascii_alphabetic c ≡ b → is_ascii_digit c ≡ false → IsFront (c ∷ cs) (token_at (c ∷ cs))
  by_letter true a d = front_is (c ∷ cs) (token_at (c ∷ cs)) (word_at (c ∷ cs)) (at_letter c cs a) (word_front_at c cs a)
  by_letter false a d = by_opening (eqb c 91) refl d a

  by_digit : (b : Bool) → is_ascii_digit c ≡ b → IsFront (c ∷ cs) (token_at (c ∷ cs))
  by_digit true d = front_is (c ∷ cs) (token_at (c ∷ cs)) (number_at (c ∷ cs)) (at_digit c cs d) (number_front c cs d)
  by_digit false d = by_letter (is_ascii_alphabetic c) refl d
