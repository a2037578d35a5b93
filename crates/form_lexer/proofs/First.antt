-- What a line begins with.
use Rattle.std.proofs.Common.{◌≡◌, ◌≢◌, ℕ, ◌<◌, ◌≤◌, false, List, [], ◌∷◌, ◌++◌, length, take, drop, refl, sym, ap, ◌∙◌, arith, append_assoc}
use Rattle.std.specs.List.{AllPass}
use Rattle.std.proofs.lemmas.List.{length-append, length-take, take-append-drop}
use Rattle.form_lexer.specs.declared.token.TokenKind.{TokenKind}
use Rattle.form_lexer.specs.Tokens.{IsWritten, BeginsWith, is_blank}
use Rattle.form_lexer.specs.Reading.{kind_of, token_at}
use Rattle.form_lexer.proofs.Complete.{is_read}
use Rattle.form_lexer.proofs.Local.{token_local}
use Rattle.form_lexer.proofs.Sound.{token_front}

some_length : (xs : List ℕ) → xs ≢ [] → 0 < length xs
some_length [] some = absurd (some refl)
some_length (x ∷ xs) some = omega arith

-- no longer front than what is read is a token
no_longer : (text : List ℕ) (n : ℕ) → (token_at text).1 ≡ n → n ≤ length text → (more others : List ℕ) (other : TokenKind) → drop n text ≡ more ++ others → more ≢ [] → IsWritten other (take n text ++ more) → ⊥
no_longer text n e within more others other rest some written =
    let t : List ℕ = take n text ++ more in
    let whole : text ≡ t ++ others = sym (take-append-drop n text) ∙ ap (λ (r : List ℕ). take n text ++ r) rest ∙ sym (append_assoc (take n text) more others) in
    let size : (token_at (t ++ others)).1 ≡ n = ap (λ (u : List ℕ). (token_at u).1) (sym whole) ∙ e in
    let longer : n < length t = omega (arith, length-append (take n text) more, length-take n text, some_length more some) in
    let same : (token_at t).1 ≡ (token_at (t ++ others)).1 = token_local t others (omega arith) in
    omega (arith, (is_read other t written).whole)

-- behind blanks what is read is what the line begins with
pub begins_after : (line blanks : List ℕ) (c : ℕ) (cs : List ℕ) → line ≡ blanks ++ c ∷ cs → AllPass is_blank blanks → is_blank c ≡ false
    → BeginsWith line (kind_of (token_at (c ∷ cs)).0 (take (token_at (c ∷ cs)).1 (c ∷ cs))) (drop (token_at (c ∷ cs)).1 (c ∷ cs))
begins_after line blanks c cs e only blank =
    let read = token_front c cs blank in
    let n : ℕ = (token_at (c ∷ cs)).1 in
    record {
      blanks = blanks;
      text = take n (c ∷ cs);
      line_is = e ∙ ap (λ (t : List ℕ). blanks ++ t) (sym (take-append-drop n (c ∷ cs))) ∙ sym (append_assoc blanks (take n (c ∷ cs)) (drop n (c ∷ cs)));
      only_blanks = only;
      written = read.written;
      longest = no_longer (c ∷ cs) n refl read.within;
    }
