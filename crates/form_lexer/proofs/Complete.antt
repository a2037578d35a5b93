-- A token's text is read whole, as that token.
use Rattle.std.proofs.Common.{◌≡◌, ◌≢◌, ◌⊎◌, ℕ, ◌+◌, ◌<◌, true, false, eqb, List, [], ◌∷◌, ◌++◌, length, take, drop, Option, Some, None, refl, sym, ap, ◌∙◌, arith, inl, inr}
use Rattle.std.proofs.Math.Seq.{take-length, drop-length, drop-append_seam}
use Rattle.std.proofs.lemmas.List.{length-append}
use Rattle.std.specs.Prelude.{not, All}
use Rattle.std.specs.List.{AllPass}
use Rattle.std.specs.Char.{is_ascii_digit, is_ascii_alphanumeric}
use Rattle.std.proofs.lemmas.List.Elements.{All-head, All-cons, All-weaker}
use Rattle.std.proofs.lemmas.Bool.{eq-eqb, ne_eqb}
use Rattle.form_number.specs.Numbers.{value_of}
use Rattle.form_lexer.specs.declared.mark.Mark as marks
use Rattle.form_lexer.specs.declared.shape.Shape.{Shape}
use Rattle.form_lexer.specs.declared.shape.Shape.TheVariants as shapes
use Rattle.form_lexer.specs.declared.token.TokenKind.{TokenKind}
use Rattle.form_lexer.specs.declared.token.TokenKind.TheVariants as kinds
use Rattle.form_lexer.specs.Tokens.{IsWord, IsBracketed, IsWritten, HasNoClosing, mark_text, built_in_text}
use Rattle.form_lexer.specs.Reading.{kind_of, front, token_at, number_at, word_at, bracket_at, mark_at, underscored, word_of, closed_at, single_mark}
use Rattle.form_lexer.proofs.Classes.{at_digit, at_letter, at_opening, at_other, letter_is_alphanumeric}
use Rattle.form_lexer.proofs.Fronts.{front_all, front_ends, position_at, position_none}
use Rattle.form_lexer.proofs.Marks.{mark_again, built_in_again, single_is, stray_word}

-- the text is read whole, as this kind
pub record IsRead (text : List ℕ) (kind : TokenKind) : Type 0 where
  pub whole : (token_at text).1 ≡ length text
  pub is : kind ≡ kind_of (token_at text).0 text

read_as : (text : List ℕ) (kind : TokenKind) (read : Shape × ℕ) → token_at text ≡ read → read.1 ≡ length text → kind ≡ kind_of read.0 text → IsRead text kind
read_as text kind read e whole is = record { whole = ap (λ (r : Shape × ℕ). r.1) e ∙ whole; is = is ∙ ap (λ (r : Shape × ℕ). kind_of r.0 text) (sym e) }

number_read : (c : ℕ) (cs : List ℕ) → AllPass is_ascii_digit (c ∷ cs) → IsRead (c ∷ cs) (kinds.Number (value_of (c ∷ cs)))
unfolding number_at
number_read c cs digits =
    let all = front_all is_ascii_digit (c ∷ cs) digits in
    read_as (c ∷ cs) (kinds.Number (value_of (c ∷ cs))) (number_at (c ∷ cs)) (at_digit c cs (All-head (λ d. is_ascii_digit d ≡ true) c cs digits)) all
    refl

pub word_of_is : (text : List ℕ) (l u : ℕ) → front is_ascii_alphanumeric text ≡ l → front (λ c. eqb c 95) (drop l text) ≡ u → word_at text ≡ word_of l u text
unfolding word_at
word_of_is text l u e f =
    ap (λ (n : ℕ). word_of n (front (λ c. eqb c 95) (drop n text)) text) e ∙ ap (λ (n : ℕ). word_of l n text) f

pub word_alone : (l : ℕ) (text : List ℕ) → word_of l 0 text ≡ (shapes.Name, l)
word_alone l text = let none : l + 0 ≡ l = omega arith in rw (none, eq-eqb l l refl) refl

pub word_and_more : (l u : ℕ) (text : List ℕ) → 0 < u → word_of l u text ≡ (underscored (take (l + u) text), l + u)
word_and_more l u text some = let more : eqb (l + u) l ≡ false = ne_eqb (l + u) l (λ e. omega arith) in rw more refl

word_read : (c : ℕ) (cs : List ℕ) → IsWord (c ∷ cs) → IsRead (c ∷ cs) (kinds.Name (c ∷ cs))
word_read c cs word =
    let all = front_all is_ascii_alphanumeric (c ∷ cs) (All-cons (λ d. is_ascii_alphanumeric d ≡ true) c cs (letter_is_alphanumeric c word.0) word.1) in
    let none : front (λ d. eqb d 95) (drop (length (c ∷ cs)) (c ∷ cs)) ≡ 0 = ap (front (λ d. eqb d 95)) (drop-length (c ∷ cs)) in
    read_as (c ∷ cs) (kinds.Name (c ∷ cs)) (shapes.Name, length (c ∷ cs))
    (at_letter c cs word.0 ∙ word_of_is (c ∷ cs) (length (c ∷ cs)) 0 all none ∙ word_alone (length (c ∷ cs)) (c ∷ cs)) refl refl

not_closing : (c : ℕ) → c ≢ 93 → not (eqb c 93) ≡ true
not_closing c other = ap not (ne_eqb c 93 other)

bracketed_read : (inner : List ℕ) → HasNoClosing inner → IsRead (91 ∷ inner ++ 93 ∷ []) (kinds.Name (91 ∷ inner ++ 93 ∷ []))
unfolding bracket_at
bracketed_read inner none =
    let all = All-cons (λ c. not (eqb c 93) ≡ true) 91 inner refl (All-weaker (λ c. c ≢ 93) (λ c. not (eqb c 93) ≡ true) not_closing inner none) in
    let place = position_at (λ c. eqb c 93) (91 ∷ inner) 93 [] all refl in
    read_as (91 ∷ inner ++ 93 ∷ []) (kinds.Name (91 ∷ inner ++ 93 ∷ [])) (closed_at (Some (length (91 ∷ inner))) (91 ∷ inner ++ 93 ∷ []))
    (at_opening (inner ++ 93 ∷ []) ∙ ap (λ (o : Option ℕ). closed_at o (91 ∷ inner ++ 93 ∷ [])) place) (omega (arith, length-append inner (93 ∷ []))) refl

unclosed_read : (inner : List ℕ) → HasNoClosing inner → IsRead (91 ∷ inner) kinds.Stray
unfolding bracket_at
unclosed_read inner none =
    let all = All-cons (λ c. not (eqb c 93) ≡ true) 91 inner refl (All-weaker (λ c. c ≢ 93) (λ c. not (eqb c 93) ≡ true) not_closing inner none) in
    read_as (91 ∷ inner) kinds.Stray (closed_at None (91 ∷ inner))
    (at_opening inner ∙ ap (λ (o : Option ℕ). closed_at o (91 ∷ inner)) (position_none (λ c. eqb c 93) (91 ∷ inner) all)) refl refl

underscored_read : (word underscores : List ℕ) → IsWord word → All (λ c. c ≡ 95) underscores → underscores ≢ [] → underscored (word ++ underscores) ≡ shapes.Stray
    → IsRead (word ++ underscores) kinds.Stray
underscored_read [] underscores is_word only some stray = absurd is_word
underscored_read word [] is_word only some stray = absurd (some refl)
underscored_read (c ∷ cs) (u ∷ us) is_word only some stray =
    let word : List ℕ = c ∷ cs in
    let text : List ℕ = word ++ u ∷ us in
    let first : u ≡ 95 = All-head (λ d. d ≡ 95) u us only in
    let all = All-cons (λ d. is_ascii_alphanumeric d ≡ true) c cs (letter_is_alphanumeric c is_word.0) is_word.1 in
    let letters : front is_ascii_alphanumeric text ≡ length word = front_ends is_ascii_alphanumeric word u us all (ap is_ascii_alphanumeric first) in
    let rest : drop (length word) text ≡ u ∷ us = drop-append_seam word (u ∷ us) in
    let underscores : front (λ d. eqb d 95) (drop (length word) text) ≡ length (u ∷ us) =
    ap (front (λ d. eqb d 95)) rest ∙ front_all (λ d. eqb d 95) (u ∷ us) (All-weaker (λ d. d ≡ 95) (λ d. eqb d 95 ≡ true) (λ d e. eq-eqb d 95 e) (u ∷ us) only) in
    let all_text : length word + length (u ∷ us) ≡ length text = sym (length-append word (u ∷ us)) in
    let whole : take (length word + length (u ∷ us)) text ≡ text = ap (λ n. take n text) all_text ∙ take-length text in
    read_as text kinds.Stray (underscored (take (length word + length (u ∷ us)) text), length word + length (u ∷ us))
    (at_letter c (cs ++ u ∷ us) is_word.0 ∙ word_of_is text (length word) (length (u ∷ us)) letters underscores ∙ word_and_more (length word) (length (u ∷ us)) text (omega arith))
    all_text
    (ap (λ (s : Shape). kind_of s text) (sym (ap underscored whole ∙ stray)))

other_read : (c : ℕ) → is_ascii_alphanumeric c ≡ false → c ≢ 91 → ((m : marks.Mark) → mark_text m ≢ c ∷ []) → IsRead (c ∷ []) kinds.Stray
unfolding mark_at
other_read c e opening none = by_mark (single_mark c) refl where
  by_mark : (o : Option marks.Mark) → single_mark c ≡ o → IsRead (c ∷ []) kinds.Stray
  by_mark (Some m) f = absurd (none m (single_is c m f))
  by_mark None f = read_as (c ∷ []) kinds.Stray (shapes.Stray, 1) (at_other c [] e opening ∙ rw f refl) refl refl

pub is_read : (kind : TokenKind) (text : List ℕ) → IsWritten kind text → IsRead text kind
is_read (kinds.Number value) [] h = absurd (h.1 refl)
is_read (kinds.Number value) (c ∷ cs) h = rw h.2 (number_read c cs h.0)
is_read (kinds.Name name) text h = rw h.0 (by_name text h.1) where
  by_name : (text : List ℕ) → IsWord text ⊎ IsBracketed text → IsRead text (kinds.Name text)
  by_name [] (inl word) = absurd word
  by_name (c ∷ cs) (inl word) = word_read c cs word
  by_name text (inr b) = rw b.text_is (bracketed_read b.inner b.no_closing)
is_read (kinds.BuiltIn b) text h = rw h (read_as (built_in_text b) (kinds.BuiltIn b) (shapes.BuiltIn b, length (built_in_text b)) (built_in_again b) refl refl)
is_read (kinds.Mark m) text h = rw h (read_as (mark_text m) (kinds.Mark m) (shapes.Mark m, length (mark_text m)) (mark_again m) refl refl)
is_read kinds.Stray text (inl h) =
    let is : text ≡ h.0.word ++ h.0.underscores = h.0.text_is in
    rw is (underscored_read h.0.word h.0.underscores h.0.is_word h.0.only h.0.some (ap underscored (sym is) ∙ stray_word text h.1))
is_read kinds.Stray text (inr (inl h)) = rw h.text_is (unclosed_read h.inner h.no_closing)
is_read kinds.Stray text (inr (inr h)) = rw h.text_is (other_read h.character h.no_word h.no_opening h.no_mark)
