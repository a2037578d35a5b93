-- Where a search finds a byte, and what stands before and behind that.
use Rattle.std.proofs.Common.{◌≡◌, ◌∙◌, refl, sym, ap, ℕ, suc, ◌+◌, ◌-◌, ◌<◌, Bool, true, false, Option, Some, None, List, ◌∷◌, ◌++◌, length, take, drop, get_or, arith}
use Rattle.std.specs.List.{list_any}
use Rattle.std.specs.Option.{is_some}
use Rattle.std.specs.Prelude.{◌==◌, ◌||◌}
use Rattle.std.proofs.Math.Seq.{drop-cons}
use Rattle.std.proofs.lemmas.Bool.{eqb-true, false_from_ne_true}
use Rattle.std.proofs.lemmas.List.{get_or-take, get_or-drop, length-take-le, length-drop, take-append-drop, take_rest}
use Rattle.std.proofs.lemmas.List.Elements.{All-from_get_or}
use Rattle.std.proofs.lemmas.List.Folds.{list_any_at, list_any_none}
use Rattle.memchr.specs.Find.{Nowhere, NoneBefore, NoneAfter, Passes, IsFirstByte, IsLastByte, is_byte, is_byte2}
use Rattle.form_preproc.specs.Bytes.{HasNo}
use Rattle.form_preproc.specs.Putting.{quote, IsAtQuote}

none_in : (test : ℕ → Bool) (text : List ℕ) → ((k : ℕ) → k < length text → ¬ (test (get_or text k 0) ≡ true)) → list_any test text ≡ false
none_in test text h = list_any_none test text (All-from_get_or (λ c. test c ≡ false) text 0 (λ k l. false_from_ne_true (test (get_or text k 0)) (h k l)))

pub not_found : (test : ℕ → Bool) (text : List ℕ) → Nowhere (Passes test text) 0 (length text) → list_any test text ≡ false
not_found test text h = none_in test text (λ k l. h k (omega arith) l)

pub holds : (byte : ℕ) (text : List ℕ) (r : Option ℕ) → IsFirstByte (is_byte byte) text r → is_some r ≡ list_any (λ c. c == byte) text
holds byte text None h = sym (not_found (is_byte byte) text h)
holds byte text (Some k) h = sym (list_any_at (λ c. c == byte) text k 0 h.0.high h.1)

-- what stands before a place and behind it
abbrev before : List ℕ → ℕ → List ℕ
before text k = take k text

abbrev behind : List ℕ → ℕ → List ℕ
behind text k = take (length text - (k + 1)) (drop (k + 1) text)

none_before : (test : ℕ → Bool) (text : List ℕ) (k : ℕ) → NoneBefore (Passes test text) 0 (length text) k → list_any test (before text k) ≡ false
none_before test text k h =
    let size = length-take-le k text (omega (arith, h.high)) in
    none_in test (take k text) (λ i l t.
    let below : i < k = omega (arith, l, size) in
    h.before i (omega arith) below (ap test (sym (get_or-take k text i 0 below)) ∙ t))

none_behind : (test : ℕ → Bool) (text : List ℕ) (k : ℕ) → NoneAfter (Passes test text) 0 (length text) k → list_any test (behind text k) ≡ false
none_behind test text k h =
    let size = length-drop (k + 1) text in
    rw (take_rest text (k + 1)) (none_in test (drop (k + 1) text) (λ i l t.
    h.after (k + 1 + i) (omega arith) (omega (arith, l, size)) (ap test (sym (get_or-drop (k + 1) text i 0)) ∙ t)))

split_at : (text : List ℕ) (k : ℕ) → k < length text → text ≡ before text k ++ get_or text k 0 ∷ behind text k
split_at text k lt =
    let next : suc k ≡ k + 1 = omega arith in
    let rest : drop k text ≡ get_or text k 0 ∷ drop (k + 1) text = drop-cons text k 0 lt ∙ ap (λ n. get_or text k 0 ∷ drop n text) next in
    rw (take_rest text (k + 1)) (sym (take-append-drop k text) ∙ ap (λ r. take k text ++ r) rest)

split_by : (text : List ℕ) (k byte : ℕ) → k < length text → get_or text k 0 ≡ byte → text ≡ before text k ++ byte ∷ behind text k
split_by text k byte lt is = split_at text k lt ∙ ap (λ c. before text k ++ c ∷ behind text k) is

pub first_found : (byte : ℕ) (text : List ℕ) (k : ℕ) → IsFirstByte (is_byte byte) text (Some k) → (text ≡ before text k ++ byte ∷ behind text k) × HasNo byte (before text k)
first_found byte text k h = (split_by text k byte h.0.high (eqb-true (get_or text k 0) byte h.1), none_before (is_byte byte) text k h.0)

pub last_found : (byte : ℕ) (text : List ℕ) (k : ℕ) → IsLastByte (is_byte byte) text (Some k) → (text ≡ before text k ++ byte ∷ behind text k) × HasNo byte (behind text k)
last_found byte text k h = (split_by text k byte h.0.high (eqb-true (get_or text k 0) byte h.1), none_behind (is_byte byte) text k h.0)

quote_is : (c : ℕ) → is_byte2 96 39 c ≡ true → c ≡ quote (c == 96)
quote_is c h = by (c == 96) refl h
  where
    by : (b : Bool) → (c == 96) ≡ b → (b || (c == 39)) ≡ true → c ≡ quote b
    by true e h = eqb-true c 96 e
    by false e h = eqb-true c 39 h

pub quote_found : (text : List ℕ) (k : ℕ) → IsFirstByte (is_byte2 96 39) text (Some k) → IsAtQuote text (before text k) (get_or text k 0 == 96) (behind text k)
quote_found text k h = (split_by text k (quote (get_or text k 0 == 96)) h.0.high (quote_is (get_or text k 0) h.1), none_before (is_byte2 96 39) text k h.0)
