-- Which reader a text goes to, by its first character.
use Rattle.std.proofs.Common.{◌≡◌, ◌≢◌, ◌⊎◌, ℕ, ◌≤◌, true, false, eqb, leb, ◌||◌, List, ◌∷◌, refl, arith, inl, inr}
use Rattle.std.specs.Char.{is_ascii_digit, is_ascii_alphabetic, is_ascii_alphanumeric}
use Rattle.std.specs.Int.{is_in_range}
use Rattle.std.proofs.lemmas.Bool.{leb-true, and_parts, or_cases, or_parts, or_left, or_right, or_from, false_from_ne_true, ne_eqb}
use Rattle.form_lexer.specs.Tokens.{is_blank}
use Rattle.form_lexer.specs.Reading.{token_at, number_at, word_at, bracket_at, mark_at}

in_range : (low high c : ℕ) → is_in_range low high c ≡ true → (low ≤ c) × (c ≤ high)
in_range low high c e = let h = and_parts (leb low c) (leb c high) e in (leb-true low c h.0, leb-true c high h.1)

-- a letter is no digit
pub letter_no_digit : (c : ℕ) → is_ascii_alphabetic c ≡ true → is_ascii_digit c ≡ false
letter_no_digit c e = false_from_ne_true (is_ascii_digit c) (λ d. by_case (in_range 48 57 c d) (or_cases (is_in_range 65 90 c) (is_in_range 97 122 c) e)) where
  by_case : (48 ≤ c) × (c ≤ 57) → (is_in_range 65 90 c ≡ true) ⊎ (is_in_range 97 122 c ≡ true) → ⊥
  by_case d (inl h) = let r = in_range 65 90 c h in omega (arith, d.1, r.0)
  by_case d (inr h) = let r = in_range 97 122 c h in omega (arith, d.1, r.0)

pub letter_is_alphanumeric : (c : ℕ) → is_ascii_alphabetic c ≡ true → is_ascii_alphanumeric c ≡ true
letter_is_alphanumeric c e = by_case (or_cases (is_in_range 65 90 c) (is_in_range 97 122 c) e) where
  by_case : (is_in_range 65 90 c ≡ true) ⊎ (is_in_range 97 122 c ≡ true) → is_ascii_alphanumeric c ≡ true
  by_case (inl h) = or_left (is_in_range 48 57 c || is_in_range 65 90 c) (is_in_range 97 122 c) (or_right (is_in_range 48 57 c) (is_in_range 65 90 c) h)
  by_case (inr h) = or_right (is_in_range 48 57 c || is_in_range 65 90 c) (is_in_range 97 122 c) h

-- neither a digit nor a letter is none of both
pub not_alphanumeric : (c : ℕ) → is_ascii_digit c ≡ false → is_ascii_alphabetic c ≡ false → is_ascii_alphanumeric c ≡ false
not_alphanumeric c d e =
    let h = or_parts (is_in_range 65 90 c) (is_in_range 97 122 c) e in
    or_from (is_in_range 48 57 c || is_in_range 65 90 c) (is_in_range 97 122 c) (or_from (is_in_range 48 57 c) (is_in_range 65 90 c) d h.0) h.1

pub digit_of_alphanumeric : (c : ℕ) → is_ascii_alphanumeric c ≡ false → is_ascii_digit c ≡ false
digit_of_alphanumeric c e =
    (or_parts (is_in_range 48 57 c) (is_in_range 65 90 c) (or_parts (is_in_range 48 57 c || is_in_range 65 90 c) (is_in_range 97 122 c) e).0).0

pub letter_of_alphanumeric : (c : ℕ) → is_ascii_alphanumeric c ≡ false → is_ascii_alphabetic c ≡ false
letter_of_alphanumeric c e =
    let h = or_parts (is_in_range 48 57 c || is_in_range 65 90 c) (is_in_range 97 122 c) e in
    or_from (is_in_range 65 90 c) (is_in_range 97 122 c) (or_parts (is_in_range 48 57 c) (is_in_range 65 90 c) h.0).1 h.1

-- a digit and a letter are no blanks
pub digit_no_blank : (c : ℕ) → is_ascii_digit c ≡ true → is_blank c ≡ false
digit_no_blank c e =
    let r = in_range 48 57 c e in
    or_from (eqb c 32) (eqb c 9) (ne_eqb c 32 (λ h. omega (arith, r.0, h))) (ne_eqb c 9 (λ h. omega (arith, r.0, h)))

pub letter_no_blank : (c : ℕ) → is_ascii_alphabetic c ≡ true → is_blank c ≡ false
letter_no_blank c e = by_case (or_cases (is_in_range 65 90 c) (is_in_range 97 122 c) e) where
  above : 65 ≤ c → is_blank c ≡ false
  above r = or_from (eqb c 32) (eqb c 9) (ne_eqb c 32 (λ h. omega (arith, r, h))) (ne_eqb c 9 (λ h. omega (arith, r, h)))

  by_case : (is_in_range 65 90 c ≡ true) ⊎ (is_in_range 97 122 c ≡ true) → is_blank c ≡ false
  by_case (inl h) = above (in_range 65 90 c h).0
  by_case (inr h) = let r = in_range 97 122 c h in above (omega (arith, r.0))

pub at_digit : (c : ℕ) (cs : List ℕ) → is_ascii_digit c ≡ true → token_at (c ∷ cs) ≡ number_at (c ∷ cs)
unfolding token_at
at_digit c cs e = rw e refl

pub at_letter : (c : ℕ) (cs : List ℕ) → is_ascii_alphabetic c ≡ true → token_at (c ∷ cs) ≡ word_at (c ∷ cs)
unfolding token_at
at_letter c cs e = rw (letter_no_digit c e, e) refl

pub at_opening : (cs : List ℕ) → token_at (91 ∷ cs) ≡ bracket_at (91 ∷ cs)
unfolding token_at
at_opening cs = refl

pub at_other : (c : ℕ) (cs : List ℕ) → is_ascii_alphanumeric c ≡ false → c ≢ 91 → token_at (c ∷ cs) ≡ mark_at (c ∷ cs)
unfolding token_at
at_other c cs e other = rw (digit_of_alphanumeric c e, letter_of_alphanumeric c e, ne_eqb c 91 other) refl
