-- What follows a token by more than one character has no part in how long it is.
use Rattle.std.proofs.Common.{◌≡◌, ℕ, ◌+◌, ◌<◌, Bool, true, false, eqb, List, [], ◌∷◌, ◌++◌, length, drop, refl, sym, ap, subst, ◌∙◌, arith}
use Rattle.std.specs.Prelude.{Option, Some, None, position, not}
use Rattle.std.specs.Char.{is_ascii_digit, is_ascii_alphabetic, is_ascii_alphanumeric}
use Rattle.std.proofs.lemmas.Bool.{lt-ltb, eqb-true, eqb-false}
use Rattle.std.proofs.lemmas.List.{length-append, length-drop, drop-append-le}
use Rattle.form_lexer.specs.declared.mark.Mark as marks
use Rattle.form_lexer.specs.declared.shape.Shape.{Shape}
use Rattle.form_lexer.specs.Reading.{front, token_at, number_at, word_at, word_of, bracket_at, closed_at, mark_at, or_single, doubled, single_mark}
use Rattle.form_lexer.proofs.Classes.{at_digit, at_letter, at_opening, at_other, not_alphanumeric}
use Rattle.form_lexer.proofs.Complete.{word_of_is}
use Rattle.form_lexer.proofs.Fronts.{front_local, position_found}

number_local : (t o : List ℕ) → (number_at (t ++ o)).1 < length t → (number_at t).1 ≡ (number_at (t ++ o)).1
unfolding number_at
number_local t o lt = front_local is_ascii_digit t o lt

word_length : (l u : ℕ) (text : List ℕ) → (word_of l u text).1 ≡ l + u
word_length l u text = by_test (eqb (l + u) l) refl where
  by_test : (b : Bool) → eqb (l + u) l ≡ b → (word_of l u text).1 ≡ l + u
  by_test true e = rw e refl
  by_test false e = rw e refl

pub word_size : (text : List ℕ) → (word_at text).1 ≡ front is_ascii_alphanumeric text + front (λ c. eqb c 95) (drop (front is_ascii_alphanumeric text) text)
unfolding word_at
word_size text = word_length (front is_ascii_alphanumeric text) (front (λ c. eqb c 95) (drop (front is_ascii_alphanumeric text) text)) text

word_local : (t o : List ℕ) → (word_at (t ++ o)).1 < length t → (word_at t).1 ≡ (word_at (t ++ o)).1
word_local t o lt =
    let l : ℕ = front is_ascii_alphanumeric (t ++ o) in
    let u : ℕ = front (λ c. eqb c 95) (drop l (t ++ o)) in
    let size : (word_at (t ++ o)).1 ≡ l + u = word_size (t ++ o) in
    let below : l < length t = omega arith in
    let letters : front is_ascii_alphanumeric t ≡ l = front_local is_ascii_alphanumeric t o below in
    let parted : drop l (t ++ o) ≡ drop l t ++ o = drop-append-le l t o (omega arith) in
    let some : front (λ c. eqb c 95) (drop l t ++ o) < length (drop l t) =
    omega (arith, length-drop l t, ap (front (λ c. eqb c 95)) parted) in
    let underscores : front (λ c. eqb c 95) (drop l t) ≡ u = front_local (λ c. eqb c 95) (drop l t) o some ∙ ap (front (λ c. eqb c 95)) (sym parted) in
    ap (λ (r : Shape × ℕ). r.1) (word_of_is t l u letters underscores) ∙ word_length l u t ∙ sym size

position_local : (p : ℕ → Bool) (t o : List ℕ) (n : ℕ) → position p (t ++ o) ≡ Some n → n < length t → position p t ≡ Some n
position_local p t o n e lt =
    let found = position_found p (t ++ o) n e in
    let is : front (λ c. not (p c)) t ≡ n = front_local (λ c. not (p c)) t o (omega (arith, found.0)) ∙ found.0 in
    rw (is, lt-ltb n (length t) lt) refl

bracket_local : (t o : List ℕ) → (bracket_at (t ++ o)).1 < length t → (bracket_at t).1 ≡ (bracket_at (t ++ o)).1
unfolding bracket_at
bracket_local t o lt = by_place (position (λ c. eqb c 93) (t ++ o)) refl lt where
  by_place : (place : Option ℕ) → position (λ c. eqb c 93) (t ++ o) ≡ place → (closed_at place (t ++ o)).1 < length t → (closed_at (position (λ c. eqb c 93) t) t).1 ≡ (closed_at place (t ++ o)).1
  by_place (Some n) e h = ap (λ (place : Option ℕ). (closed_at place t).1) (position_local (λ c. eqb c 93) t o n e (omega arith))
  by_place None e h = absurd (omega (arith, length-append t o))

single_size : (c : ℕ) (o : Option marks.Mark) → single_mark c ≡ o → (or_single None c).1 ≡ 1
single_size c (Some m) e = rw e refl
single_size c None e = rw e refl

-- a mark, and what is none, has one character or two
pub mark_size : (c : ℕ) (o : Option marks.Mark) → 0 < (or_single o c).1
mark_size c (Some m) = omega arith
mark_size c None = omega (arith, single_size c (single_mark c) refl)

mark_local : (c : ℕ) (cs o : List ℕ) → (mark_at ((c ∷ cs) ++ o)).1 < length (c ∷ cs) → (mark_at (c ∷ cs)).1 ≡ (mark_at ((c ∷ cs) ++ o)).1
unfolding mark_at
mark_local c [] o lt = absurd (omega (arith, mark_size c (doubled o c)))
mark_local c (d ∷ more) o lt = refl

by_reader : (reader : List ℕ → Shape × ℕ) (t o : List ℕ) → token_at t ≡ reader t → token_at (t ++ o) ≡ reader (t ++ o)
    → ((reader (t ++ o)).1 < length t → (reader t).1 ≡ (reader (t ++ o)).1) → (token_at (t ++ o)).1 < length t → (token_at t).1 ≡ (token_at (t ++ o)).1
by_reader reader t o e f same lt = rw (e, f) (same (rw f at lt))

-- how long the token at the front of a text is shows as soon as one character more is there
pub token_local : (t o : List ℕ) → (token_at (t ++ o)).1 < length t → (token_at t).1 ≡ (token_at (t ++ o)).1
token_local [] o lt = absurd (omega arith)
token_local (c ∷ cs) o lt = by_digit (is_ascii_digit c) refl where
  by_opening : (b : Bool) → eqb c 91 ≡ b → is_ascii_digit c ≡ false → is_ascii_alphabetic c ≡ false → (token_at (c ∷ cs)).1 ≡ (token_at ((c ∷ cs) ++ o)).1
  by_opening true e d a =
      let same : c ≡ 91 = eqb-true c 91 e in
      by_reader bracket_at (c ∷ cs) o (subst (λ (k : ℕ). token_at (k ∷ cs) ≡ bracket_at (k ∷ cs)) (sym same) (at_opening cs))
      (subst (λ (k : ℕ). token_at (k ∷ (cs ++ o)) ≡ bracket_at (k ∷ (cs ++ o))) (sym same) (at_opening (cs ++ o))) (bracket_local (c ∷ cs) o) lt
  by_opening false e d a =
      let other = eqb-false c 91 e in
      by_reader mark_at (c ∷ cs) o (at_other c cs (not_alphanumeric c d a) other) (at_other c (cs ++ o) (not_alphanumeric c d a) other) (mark_local c cs o) lt

  by_letter : (b : Bool) → is_ascii_alphabetic c ≡ b → is_ascii_digit c ≡ false → (token_at (c ∷ cs)).1 ≡ (token_at ((c ∷ cs) ++ o)).1
  by_letter true a d = by_reader word_at (c ∷ cs) o (at_letter c cs a) (at_letter c (cs ++ o) a) (word_local (c ∷ cs) o) lt
  by_letter false a d = by_opening (eqb c 91) refl d a

  by_digit : (b : Bool) → is_ascii_digit c ≡ b → (token_at (c ∷ cs)).1 ≡ (token_at ((c ∷ cs) ++ o)).1
  by_digit true d = by_reader number_at (c ∷ cs) o (at_digit c cs d) (at_digit c (cs ++ o) d) (number_local (c ∷ cs) o) lt
  by_digit false d = by_letter (is_ascii_alphabetic c) refl d
