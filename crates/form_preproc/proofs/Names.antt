-- A name is ASCII, and so it is UTF-8.
use Rattle.std.proofs.Common.{◌≡◌, ◌⊎◌, inl, inr, ℕ, ◌<◌, Bool, true, false, ◌&&◌, ◌||◌, leb, List, [], ◌∷◌, Option, Result, Ok, Err, MatchOption, MatchResult, arith, refl}
use Rattle.std.specs.Borrow.{Bor}
use Rattle.std.specs.Result.{result_ok}
use Rattle.std.specs.Str.{IsAscii, IsUtf8}
use Rattle.std.specs.Prelude.{All}
use Rattle.std.specs.List.{list_all}
use Rattle.std.specs.Char.{is_ascii_alphabetic, is_ascii_alphanumeric}
use Rattle.std.proofs.lemmas.Bool.{or_cases, and_parts, leb-true}
use Rattle.std.proofs.lemmas.List.Elements.{All-weaker, All-cons, All-nil}
use Rattle.std.proofs.lemmas.List.Sums.{AllPass-from_list_all}
use Rattle.std.proofs.lemmas.Str.Ascii.{IsAscii-from_all}
use Rattle.std.proofs.lemmas.Str.{IsUtf8-from_ascii}
use Rattle.form_preproc.specs.Bytes.{is_name}

in_range_low : (low high c : ℕ) → high < 128 → (leb low c && leb c high) ≡ true → c < 128
in_range_low low high c top e = omega (arith, leb-true c high (and_parts (leb low c) (leb c high) e).1)

letter_low : (c : ℕ) → is_ascii_alphabetic c ≡ true → c < 128
letter_low c e = by_cases (or_cases (leb 65 c && leb c 90) (leb 97 c && leb c 122) e) where
  by_cases : (((leb 65 c && leb c 90) ≡ true) ⊎ ((leb 97 c && leb c 122) ≡ true)) → c < 128
  by_cases (inl t) = in_range_low 65 90 c (omega arith) t
  by_cases (inr t) = in_range_low 97 122 c (omega arith) t

low : (c : ℕ) → is_ascii_alphanumeric c ≡ true → c < 128
low c e = by_cases (or_cases ((leb 48 c && leb c 57) || (leb 65 c && leb c 90)) (leb 97 c && leb c 122) e) where
  first : (((leb 48 c && leb c 57) ≡ true) ⊎ ((leb 65 c && leb c 90) ≡ true)) → c < 128
  first (inl t) = in_range_low 48 57 c (omega arith) t
  first (inr t) = in_range_low 65 90 c (omega arith) t

  by_cases : ((((leb 48 c && leb c 57) || (leb 65 c && leb c 90)) ≡ true) ⊎ ((leb 97 c && leb c 122) ≡ true)) → c < 128
  by_cases (inl t) = first (or_cases (leb 48 c && leb c 57) (leb 65 c && leb c 90) t)
  by_cases (inr t) = in_range_low 97 122 c (omega arith) t

all_low : (text : List ℕ) → is_name text ≡ true → All (λ c. c < 128) text
all_low [] e = absurd cc
all_low (c ∷ cs) e =
    let parts = and_parts (is_ascii_alphabetic c) (list_all is_ascii_alphanumeric cs) e in
    All-cons (λ c. c < 128) c cs (letter_low c parts.0) (All-weaker (λ c. is_ascii_alphanumeric c ≡ true) (λ c. c < 128) low cs (AllPass-from_list_all is_ascii_alphanumeric cs parts.1))

pub utf8 : (text : List ℕ) → is_name text ≡ true → IsUtf8 text
utf8 text e = IsUtf8-from_ascii text (IsAscii-from_all text (all_low text e))

-- a name is told as text
pub told : {E : Type 0} (Q : E → Type 0) (text : List ℕ) (read : Result (Bor (List ℕ)) E) (o : Option (Bor (List ℕ))) → is_name text ≡ true → o ≡ result_ok read
    → MatchResult read (λ s. (s.now ≡ text) × IsUtf8 text) (λ e. (IsUtf8 text → ⊥) × Q e)
    → MatchOption o (is_name text ≡ false) (λ told. (is_name text ≡ true) × (told.now ≡ text))
told Q text (Ok s) o name e h = rw e (name, h.0)
told Q text (Err f) o name e h = absurd (h.0 (utf8 text name))
