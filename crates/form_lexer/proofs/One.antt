-- A line has one list of tokens.
use Rattle.std.proofs.Common.{◌≡◌, ◌≢◌, ◌⊎◌, inl, inr, ℕ, ◌+◌, ◌-◌, ◌<◌, true, false, List, [], ◌∷◌, ◌++◌, length, take, drop, refl, sym, ap, subst, ◌∙◌, arith, append_assoc}
use Rattle.std.specs.List.{AllPass}
use Rattle.std.specs.Char.{is_ascii_digit}
use Rattle.std.proofs.Math.Seq.{drop-length, drop-append_seam, take-append_seam, take-append-add}
use Rattle.std.proofs.lemmas.Bool.{cases_order}
use Rattle.std.proofs.lemmas.List.{length-append, length-take, take-append-drop}
use Rattle.std.proofs.lemmas.List.Elements.{All-head}
use Rattle.form_base.specs.declared.spot.Spot.{Spot}
use Rattle.form_lexer.specs.declared.mark.Mark as marks
use Rattle.form_lexer.specs.declared.mark.Mark.TheVariants.{And, Or, EqualTo, NotEqualTo, AtMost, AtLeast, Minus, Plus, Times, Over, Power, Open, Close, OpenBrace, CloseBrace, Comma, Semicolon, Colon, Equals, Period, Question, Less, Greater}
use Rattle.form_lexer.specs.declared.mark.BuiltIn as built_ins
use Rattle.form_lexer.specs.declared.mark.BuiltIn.TheVariants.{Imaginary, Delta, Gamma}
use Rattle.form_lexer.specs.declared.shape.Shape.{Shape}
use Rattle.form_lexer.specs.declared.token.Token.{Token}
use Rattle.form_lexer.specs.declared.token.TokenKind.{TokenKind}
use Rattle.form_lexer.specs.declared.token.TokenKind.TheVariants as kinds
use Rattle.form_lexer.specs.Tokens.{IsWord, IsBracketed, IsWritten, BeginsWith, AreTokens, is_blank, mark_text, built_in_text}
use Rattle.form_lexer.specs.Reading.{kind_of, front, token_at}
use Rattle.form_lexer.proofs.Classes.{digit_no_blank, letter_no_blank}
use Rattle.form_lexer.proofs.Complete.{is_read}
use Rattle.form_lexer.proofs.Fronts.{front_all, front_ends}
use Rattle.form_lexer.proofs.Local.{token_local}
use Rattle.form_lexer.proofs.Sound.{token_front}

-- the text begins with a character that is no blank
abbrev pub Starts : List ℕ → Type 0
Starts [] = ⊥
Starts (c ∷ cs) = is_blank c ≡ false

mark_starts : (m : marks.Mark) → Starts (mark_text m)
mark_starts And = refl
mark_starts Or = refl
mark_starts EqualTo = refl
mark_starts NotEqualTo = refl
mark_starts AtMost = refl
mark_starts AtLeast = refl
mark_starts Minus = refl
mark_starts Plus = refl
mark_starts Times = refl
mark_starts Over = refl
mark_starts Power = refl
mark_starts Open = refl
mark_starts Close = refl
mark_starts OpenBrace = refl
mark_starts CloseBrace = refl
mark_starts Comma = refl
mark_starts Semicolon = refl
mark_starts Colon = refl
mark_starts Equals = refl
mark_starts Period = refl
mark_starts Question = refl
mark_starts Less = refl
mark_starts Greater = refl

built_in_starts : (b : built_ins.BuiltIn) → Starts (built_in_text b)
built_in_starts Imaginary = refl
built_in_starts Delta = refl
built_in_starts Gamma = refl

word_starts : (word more : List ℕ) → IsWord word → Starts (word ++ more)
word_starts [] more h = absurd h
word_starts (c ∷ cs) more h = letter_no_blank c h.0

no_more : (text : List ℕ) → IsWord text → Starts text
no_more [] h = absurd h
no_more (c ∷ cs) h = letter_no_blank c h.0

starts : (kind : TokenKind) (text : List ℕ) → IsWritten kind text → Starts text
starts (kinds.Number value) [] h = absurd (h.1 refl)
starts (kinds.Number value) (c ∷ cs) h = digit_no_blank c (All-head (λ d. is_ascii_digit d ≡ true) c cs h.0)
starts (kinds.Name name) text h = by_name h.1 where
  by_name : IsWord text ⊎ IsBracketed text → Starts text
  by_name (inl word) = no_more text word
  by_name (inr b) = rw b.text_is refl
starts (kinds.BuiltIn b) text h = rw h (built_in_starts b)
starts (kinds.Mark m) text h = rw h (mark_starts m)
starts kinds.Stray text (inl h) = let is = h.0.text_is in subst Starts (sym is) (word_starts h.0.word h.0.underscores h.0.is_word)
starts kinds.Stray text (inr (inl h)) = rw h.text_is refl
starts kinds.Stray text (inr (inr h)) = rw h.text_is h.no_blank

starts_more : (text rest : List ℕ) → Starts text → Starts (text ++ rest)
starts_more [] rest h = absurd h
starts_more (c ∷ cs) rest h = h

-- what a line begins with, as it is read
abbrev pub behind_blanks : List ℕ → List ℕ
behind_blanks line = drop (front is_blank line) line

abbrev pub next_kind : List ℕ → TokenKind
next_kind text = kind_of (token_at text).0 (take (token_at text).1 text)

abbrev pub next_rest : List ℕ → List ℕ
next_rest text = drop (token_at text).1 text

blanks_end : (blanks text : List ℕ) → AllPass is_blank blanks → Starts text → behind_blanks (blanks ++ text) ≡ text
blanks_end blanks [] only h = absurd h
blanks_end blanks (c ∷ cs) only h = ap (λ n. drop n (blanks ++ c ∷ cs)) (front_ends is_blank blanks c cs only h) ∙ drop-append_seam blanks (c ∷ cs)

not_nothing : (xs : List ℕ) → 0 < length xs → xs ≢ []
not_nothing xs some e = absurd (omega (arith, ap length e))

sizes : (text rest : List ℕ) (kind : TokenKind) → IsWritten kind text → Starts text
    → ((more others : List ℕ) (other : TokenKind) → rest ≡ more ++ others → more ≢ [] → IsWritten other (text ++ more) → ⊥)
    → (token_at (text ++ rest)).1 ≡ length text
sizes [] rest kind written begins longest = absurd begins
sizes (c ∷ cs) rest kind written begins longest = by_order (cases_order n (length text)) where
  text : List ℕ
  text = c ∷ cs

  n : ℕ
  n = (token_at (c ∷ (cs ++ rest))).1

  by_order : (n ≡ length text) ⊎ ((n < length text) ⊎ (length text < n)) → n ≡ length text
  by_order (inl e) = e
  by_order (inr (inl lt)) = absurd (omega (arith, token_local (c ∷ cs) rest lt, (is_read kind (c ∷ cs) written).whole))
  by_order (inr (inr gt)) =
      let read = token_front c (cs ++ rest) begins in
      let shape : Shape = (token_at (c ∷ (cs ++ rest))).0 in
      let k : ℕ = (token_at (c ∷ (cs ++ rest))).1 - length (c ∷ cs) in
      let size : (token_at (c ∷ (cs ++ rest))).1 ≡ length (c ∷ cs) + k = omega arith in
      let there : take (token_at (c ∷ (cs ++ rest))).1 (c ∷ (cs ++ rest)) ≡ (c ∷ cs) ++ take k rest = ap (λ m. take m (c ∷ (cs ++ rest))) size ∙ take-append-add (c ∷ cs) rest k in
      let longer : IsWritten (kind_of shape ((c ∷ cs) ++ take k rest)) ((c ∷ cs) ++ take k rest) = subst (λ (t : List ℕ). IsWritten (kind_of shape t) t) there read.written in
      let some : 0 < length (take k rest) = omega (arith, length-take k rest, read.within, length-append cs rest) in
      absurd (longest (take k rest) (drop k rest) (kind_of shape ((c ∷ cs) ++ take k rest)) (sym (take-append-drop k rest)) (not_nothing (take k rest) some) longer)

token_is : (text rest : List ℕ) (kind : TokenKind) → IsWritten kind text → Starts text → (token_at (text ++ rest)).1 ≡ length text → (kind ≡ next_kind (text ++ rest)) × (rest ≡ next_rest (text ++ rest))
token_is [] rest kind written begins size = absurd begins
token_is (c ∷ cs) rest kind written begins size =
    let text : List ℕ = c ∷ cs in
    let read = token_front c (cs ++ rest) begins in
    let shape : Shape = (token_at (text ++ rest)).0 in
    let there : take (token_at (text ++ rest)).1 (text ++ rest) ≡ text = ap (λ n. take n (text ++ rest)) size ∙ take-append_seam text rest in
    let as_read : IsWritten (kind_of shape text) text = subst (λ (t : List ℕ). IsWritten (kind_of shape t) t) there read.written in
    let same : kind ≡ kind_of shape text = (is_read kind text written).is ∙ sym (is_read (kind_of shape text) text as_read).is in
    (same ∙ ap (kind_of shape) (sym there), sym (ap (λ n. drop n (text ++ rest)) size ∙ drop-append_seam text rest))

-- a line begins as it is read
begins_is : (line : List ℕ) (kind : TokenKind) (rest : List ℕ) → BeginsWith line kind rest → (kind ≡ next_kind (behind_blanks line)) × (rest ≡ next_rest (behind_blanks line))
begins_is line kind rest b =
    let begins : Starts b.text = starts kind b.text b.written in
    let is : line ≡ b.blanks ++ (b.text ++ rest) = b.line_is ∙ append_assoc b.blanks b.text rest in
    let behind : behind_blanks line ≡ b.text ++ rest = ap behind_blanks is ∙ blanks_end b.blanks (b.text ++ rest) b.only_blanks (starts_more b.text rest begins) in
    let token = token_is b.text rest kind b.written begins (sizes b.text rest kind b.written begins b.longest) in
    (token.0 ∙ ap next_kind (sym behind), token.1 ∙ ap next_rest (sym behind))

-- a line that begins with a token isn't blank
not_blank : (line : List ℕ) (kind : TokenKind) (rest : List ℕ) → BeginsWith line kind rest → AllPass is_blank line → ⊥
not_blank line kind rest b only =
    let begins : Starts b.text = starts kind b.text b.written in
    let is : line ≡ b.blanks ++ (b.text ++ rest) = b.line_is ∙ append_assoc b.blanks b.text rest in
    let behind : behind_blanks line ≡ b.text ++ rest = ap behind_blanks is ∙ blanks_end b.blanks (b.text ++ rest) b.only_blanks (starts_more b.text rest begins) in
    let nothing : behind_blanks line ≡ [] = ap (λ n. drop n line) (front_all is_blank line only) ∙ drop-length line in
    subst Starts (sym behind ∙ nothing) (starts_more b.text rest begins)

same_token : (a b : Token) → a.kind ≡ b.kind → a.spot ≡ b.spot → a ≡ b
same_token a b e f = ap (λ (k : TokenKind). record { kind = k; spot = a.spot }) e ∙ ap (λ (s : Spot). record { kind = b.kind; spot = s }) f

pub one_list : (spot : Spot) (line : List ℕ) (tokens others : List Token) → AreTokens spot line tokens → AreTokens spot line others → tokens ≡ others
one_list spot line [] [] h k = refl
one_list spot line [] (other ∷ others) h k = absurd (not_blank line other.kind k.0 k.1 h)
one_list spot line (token ∷ tokens) [] h k = absurd (not_blank line token.kind h.0 h.1 k)
one_list spot line (token ∷ tokens) (other ∷ others) h k =
    let a = begins_is line token.kind h.0 h.1 in
    let b = begins_is line other.kind k.0 k.1 in
    let same_kind : token.kind ≡ other.kind = a.0 ∙ sym b.0 in
    let same_rest : k.0 ≡ h.0 = b.1 ∙ sym a.1 in
    let same_spot : token.spot ≡ other.spot = h.2 ∙ sym k.2 in
    let first : token ≡ other = same_token token other same_kind same_spot in
    let more : tokens ≡ others = one_list spot h.0 tokens others h.3 (subst (λ (r : List ℕ). AreTokens spot r others) same_rest k.3) in
    cc
