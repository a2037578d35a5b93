-- A text of plain bytes is ASCII, and so it is UTF-8.
use Rattle.std.proofs.Common.{◌≡◌, ◌⊎◌, inl, inr, ℕ, ◌<◌, true, ◌&&◌, leb, eqb, List, Option, Result, Ok, Err, MatchOption, MatchResult, arith}
use Rattle.std.specs.Borrow.{Bor}
use Rattle.std.specs.Bool.{IsTrue}
use Rattle.std.specs.Result.{result_ok}
use Rattle.std.specs.Str.{IsAscii, IsUtf8}
use Rattle.std.proofs.lemmas.Bool.{or_cases, and_parts, eqb-true, leb-true}
use Rattle.std.proofs.lemmas.List.Elements.{All-weaker}
use Rattle.std.proofs.lemmas.List.Sums.{AllPass-from_list_all}
use Rattle.std.proofs.lemmas.Str.Ascii.{IsAscii-from_all}
use Rattle.std.proofs.lemmas.Str.{IsUtf8-from_ascii}
use Rattle.form_lines.specs.Text.{is_plain_byte, IsPlain, has_other_bytes}

low : (c : ℕ) → is_plain_byte c ≡ true → c < 128
low c e = by_cases (or_cases (eqb c 9) (leb 32 c && leb c 126) e) where
  by_cases : ((eqb c 9 ≡ true) ⊎ ((leb 32 c && leb c 126) ≡ true)) → c < 128
  by_cases (inl t) = omega (arith, eqb-true c 9 t)
  by_cases (inr t) = omega (arith, leb-true c 126 (and_parts (leb 32 c) (leb c 126) t).1)

pub ascii : (text : List ℕ) → IsPlain text → IsAscii text
ascii text plain = IsAscii-from_all text (All-weaker (λ c. is_plain_byte c ≡ true) (λ c. c < 128) low text (AllPass-from_list_all is_plain_byte text plain))

pub utf8 : (text : List ℕ) → IsPlain text → IsUtf8 text
utf8 text plain = IsUtf8-from_ascii text (ascii text plain)

-- text that is plain is UTF-8, so it is told as text
pub told : {E : Type 0} (text : List ℕ) (read : Result (Bor (List ℕ)) E) (o : Option (Bor (List ℕ))) → IsPlain text → o ≡ result_ok read
    → MatchResult read (λ s. (s.now ≡ text) × IsUtf8 text) (λ e. IsUtf8 text → ⊥)
    → MatchOption o (IsTrue (has_other_bytes text)) (λ told. (told.now ≡ text) × IsPlain text)
told text (Ok s) o plain e h = rw e (h.0, plain)
told text (Err f) o plain e h = absurd (h (utf8 text plain))
