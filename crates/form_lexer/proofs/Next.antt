-- The next token of a line.
use Rattle.std.proofs.Common.{◌≡◌, ℕ, zero, suc, ◌+◌, ◌<◌, ◌≤◌, true, false, List, [], ◌∷◌, ◌++◌, length, take, drop, get_or, refl, sym, ap, subst, ◌∙◌, arith, append_assoc}
use Rattle.std.specs.List.{AllPass}
use Rattle.std.proofs.lemmas.List.Elements.{All-nil}
use Rattle.std.specs.Str.{IsAscii, IsCharBoundary}
use Rattle.std.proofs.lemmas.Str.{IsAscii-drop, IsCharBoundary-from_ascii}
use Rattle.std.proofs.lemmas.List.{length-drop, take-append-drop, get_or-drop, take_all}
use Rattle.form_base.specs.declared.spot.Spot.{Spot}
use Rattle.form_lexer.specs.declared.shape.Shape.{Shape}
use Rattle.form_lexer.specs.declared.token.Token.{Token}
use Rattle.form_lexer.specs.declared.token.TokenKind.{TokenKind}
use Rattle.form_lexer.specs.Tokens.{BeginsWith, AreTokens, is_blank}
use Rattle.form_lexer.specs.Reading.{kind_of, front, token_at, IsNext}
use Rattle.form_lexer.proofs.First.{begins_after}
use Rattle.form_lexer.proofs.Fronts.{front_passes, front_stops}
use Rattle.form_lexer.proofs.Sound.{token_front}

-- where nothing stands behind the blanks, blanks alone are there
pub all_blank : (line : List ℕ) → drop (front is_blank line) line ≡ [] → AllPass is_blank line
all_blank line e =
    let n : ℕ = front is_blank line in
    let all : take n line ≡ line = take_all n line (omega (arith, length-drop n line, ap length e)) in
    subst (λ (t : List ℕ). AllPass is_blank t) all (front_passes is_blank line)

-- what stands behind the blanks is no blank
no_blank : (line : List ℕ) (c : ℕ) (cs : List ℕ) → drop (front is_blank line) line ≡ c ∷ cs → is_blank c ≡ false
no_blank line c cs e =
    let n : ℕ = front is_blank line in
    let within : n < length line = omega (arith, length-drop n line, ap length e) in
    let at : n ≡ n + 0 = omega arith in
    let here : get_or line n 0 ≡ c = ap (λ k. get_or line k 0) at ∙ sym (get_or-drop n line 0 0) ∙ ap (λ (t : List ℕ). get_or t 0 0) e in
    ap is_blank (sym here) ∙ front_stops is_blank line 0 within

begins_at : (line : List ℕ) (c : ℕ) (cs : List ℕ) → drop (front is_blank line) line ≡ c ∷ cs
    → BeginsWith line (kind_of (token_at (c ∷ cs)).0 (take (token_at (c ∷ cs)).1 (c ∷ cs))) (drop (token_at (c ∷ cs)).1 (c ∷ cs))
begins_at line c cs e =
    let n : ℕ = front is_blank line in
    let whole : line ≡ take n line ++ c ∷ cs = sym (take-append-drop n line) ∙ ap (λ (t : List ℕ). take n line ++ t) e in
    begins_after line (take n line) c cs whole (front_passes is_blank line) (no_blank line c cs e)

shorter : (line : List ℕ) (c : ℕ) (cs : List ℕ) → drop (front is_blank line) line ≡ c ∷ cs → length (drop (token_at (c ∷ cs)).1 (c ∷ cs)) < length line
shorter line c cs e =
    let read = token_front c cs (no_blank line c cs e) in
    omega (arith, read.some, length-drop (token_at (c ∷ cs)).1 (c ∷ cs), length-drop (front is_blank line) line, ap length e)

-- the token behind the blanks, and what follows it
next_at : (line : List ℕ) (c : ℕ) (cs : List ℕ) → drop (front is_blank line) line ≡ c ∷ cs → IsAscii line
    → IsNext line (token_at (c ∷ cs)).0 (take (token_at (c ∷ cs)).1 (c ∷ cs)) (drop (token_at (c ∷ cs)).1 (c ∷ cs))
next_at line c cs e ascii = record {
  begins = begins_at line c cs e;
  ascii = IsAscii-drop (c ∷ cs) (token_at (c ∷ cs)).1 (subst IsAscii e (IsAscii-drop line (front is_blank line) ascii));
  shorter = shorter line c cs e;
}

pub next_is : (line rest : List ℕ) (shape : Shape) (size : ℕ) → rest ≡ drop (front is_blank line) line → 0 < length rest → (shape, size) ≡ token_at rest → IsAscii line
    → IsNext line shape (take size rest) (drop size rest)
next_is line [] shape size e some read ascii = absurd (omega arith)
next_is line (c ∷ cs) shape size e some read ascii =
    subst (λ (r : Shape × ℕ). IsNext line r.0 (take r.1 (c ∷ cs)) (drop r.1 (c ∷ cs))) (sym read) (next_at line c cs (sym e) ascii)

pub ends_at_character : (line rest : List ℕ) (shape : Shape) (size : ℕ) → rest ≡ drop (front is_blank line) line → 0 < length rest → (shape, size) ≡ token_at rest → IsAscii line
    → IsCharBoundary rest size
ends_at_character line [] shape size e some read ascii = absurd (omega arith)
ends_at_character line (c ∷ cs) shape size e some read ascii =
    let whole = token_front c cs (no_blank line c cs (sym e)) in
    let same : size ≡ (token_at (c ∷ cs)).1 = ap (λ (r : Shape × ℕ). r.1) read in
    IsCharBoundary-from_ascii (c ∷ cs) size (subst IsAscii (sym e) (IsAscii-drop line (front is_blank line) ascii)) (omega (arith, whole.within))

-- Each line has tokens.
tokens_within : (bound : ℕ) (spot : Spot) (line : List ℕ) → length line ≤ bound → (tokens : List Token) × AreTokens spot line tokens
tokens_within zero spot [] within = ([], All-nil (λ c. is_blank c ≡ true))
tokens_within zero spot (c ∷ cs) within = absurd (omega arith)
tokens_within (suc bound) spot line within = by_rest (tokens_within bound spot) (drop (front is_blank line) line) refl where
  by_rest : ((rest : List ℕ) → length rest ≤ bound → (tokens : List Token) × AreTokens spot rest tokens)
      → (text : List ℕ) → drop (front is_blank line) line ≡ text → (tokens : List Token) × AreTokens spot line tokens
  by_rest shorter_lines [] e = ([], all_blank line e)
  by_rest shorter_lines (c ∷ cs) e =
      let rest : List ℕ = drop (token_at (c ∷ cs)).1 (c ∷ cs) in
      let more = shorter_lines rest (omega (arith, shorter line c cs e)) in
      let token : Token = record { kind = kind_of (token_at (c ∷ cs)).0 (take (token_at (c ∷ cs)).1 (c ∷ cs)); spot = spot } in
      (token ∷ more.0, (rest, begins_at line c cs e, refl, more.1))

pub some_list : (spot : Spot) (line : List ℕ) → (tokens : List Token) × AreTokens spot line tokens
some_list spot line = tokens_within (length line) spot line (omega arith)

-- Tokens that are read, and those of the rest, are the tokens of the line.
pub token_then : (spot : Spot) (line : List ℕ) (kind : TokenKind) (rest : List ℕ) (made more : List Token) (whole : List ℕ)
    → ((more : List Token) → AreTokens spot line more → AreTokens spot whole (made ++ more)) → BeginsWith line kind rest → AreTokens spot rest more
    → AreTokens spot whole ((made ++ record { kind = kind; spot = spot } ∷ []) ++ more)
token_then spot line kind rest made more whole goes begins are =
    let token : Token = record { kind = kind; spot = spot } in
    rw append_assoc (goes (token ∷ more) (rest, begins, refl, are))
