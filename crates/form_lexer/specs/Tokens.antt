-- The tokens of a line: how each kind is written, and which tokens a line has.
use Rattle.std.specs.Prelude.{◌≡◌, ◌≢◌, ◌⊎◌, ℕ, Bool, false, ◌==◌, ◌||◌, IsTrue, List, [], ◌∷◌, ◌++◌, codes, All}
use Rattle.std.specs.List.{AllPass}
use Rattle.std.specs.Char.{is_ascii_digit, is_ascii_alphabetic, is_ascii_alphanumeric}
use Rattle.form_base.specs.declared.spot.Spot.{Spot}
use Rattle.form_number.specs.Numbers.{value_of}
use Rattle.form_lexer.specs.declared.mark.Mark as marks
use Rattle.form_lexer.specs.declared.mark.Mark.TheVariants.{And, Or, EqualTo, NotEqualTo, AtMost, AtLeast, Minus, Plus, Times, Over, Power, Open, Close, OpenBrace, CloseBrace, Comma, Semicolon, Colon, Equals, Period, Question, Less, Greater}
use Rattle.form_lexer.specs.declared.mark.BuiltIn as built_ins
use Rattle.form_lexer.specs.declared.mark.BuiltIn.TheVariants.{Imaginary, Delta, Gamma}
use Rattle.form_lexer.specs.declared.token.Token.{Token}
use Rattle.form_lexer.specs.declared.token.TokenKind.{TokenKind}
use Rattle.form_lexer.specs.declared.token.TokenKind.TheVariants.{Number, Name, BuiltIn, Mark, Stray}

abbrev pub mark_text : marks.Mark → List ℕ
mark_text And = codes "&&"
mark_text Or = codes "||"
mark_text EqualTo = codes "=="
mark_text NotEqualTo = codes "!="
mark_text AtMost = codes "<="
mark_text AtLeast = codes ">="
mark_text Minus = codes "-"
mark_text Plus = codes "+"
mark_text Times = codes "*"
mark_text Over = codes "/"
mark_text Power = codes "^"
mark_text Open = codes "("
mark_text Close = codes ")"
mark_text OpenBrace = codes "{"
mark_text CloseBrace = codes "}"
mark_text Comma = codes ","
mark_text Semicolon = codes ";"
mark_text Colon = codes ":"
mark_text Equals = codes "="
mark_text Period = codes "."
mark_text Question = codes "?"
mark_text Less = codes "<"
mark_text Greater = codes ">"

abbrev pub built_in_text : built_ins.BuiltIn → List ℕ
built_in_text Imaginary = codes "i_"
built_in_text Delta = codes "d_"
built_in_text Gamma = codes "g_"

-- a space or a tab
abbrev pub is_blank : ℕ → Bool
is_blank c = (c == 32) || (c == 9)

-- a letter, then letters and digits
abbrev pub IsWord : List ℕ → Type 0
IsWord [] = ⊥
IsWord (c ∷ cs) = IsTrue (is_ascii_alphabetic c) × AllPass is_ascii_alphanumeric cs

abbrev pub HasNoClosing : List ℕ → Type 0
HasNoClosing text = All (λ c. c ≢ 93) text

-- `[`, a text without `]`, and `]`
pub record IsBracketed (text : List ℕ) : Type 0 where
  pub inner : List ℕ
  pub no_closing : HasNoClosing inner
  pub text_is : text ≡ 91 ∷ inner ++ 93 ∷ []

-- a word, then underscores
pub record IsUnderscored (text : List ℕ) : Type 0 where
  pub word : List ℕ
  pub underscores : List ℕ
  pub is_word : IsWord word
  pub only : All (λ c. c ≡ 95) underscores
  pub some : underscores ≢ []
  pub text_is : text ≡ word ++ underscores

-- `[`, and a text without `]`
pub record IsUnclosed (text : List ℕ) : Type 0 where
  pub inner : List ℕ
  pub no_closing : HasNoClosing inner
  pub text_is : text ≡ 91 ∷ inner

-- a character that is no blank and no mark and begins no number, no word and no bracket
pub record IsOther (text : List ℕ) : Type 0 where
  pub character : ℕ
  pub no_blank : is_blank character ≡ false
  pub no_word : is_ascii_alphanumeric character ≡ false
  pub no_opening : character ≢ 91
  pub no_mark : (mark : marks.Mark) → mark_text mark ≢ character ∷ []
  pub text_is : text ≡ character ∷ []

-- how a token of this kind is written
abbrev pub IsWritten : TokenKind → List ℕ → Type 0
IsWritten (Number value) text = AllPass is_ascii_digit text × (text ≢ []) × (value ≡ value_of text)
IsWritten (Name name) text = (name ≡ text) × (IsWord text ⊎ IsBracketed text)
IsWritten (BuiltIn built_in) text = text ≡ built_in_text built_in
IsWritten (Mark mark) text = text ≡ mark_text mark
IsWritten Stray text =
    (IsUnderscored text × ((built_in : built_ins.BuiltIn) → text ≢ built_in_text built_in)) ⊎ (IsUnclosed text ⊎ IsOther text)

-- The line begins with this token: behind blanks stands its text, which is as long as a token's can be there, and then the rest.
pub record BeginsWith (line : List ℕ) (kind : TokenKind) (rest : List ℕ) : Type 0 where
  pub blanks : List ℕ
  pub text : List ℕ
  pub line_is : line ≡ blanks ++ text ++ rest
  pub only_blanks : AllPass is_blank blanks
  pub written : IsWritten kind text
  pub longest : (more others : List ℕ) (other : TokenKind) → rest ≡ more ++ others → more ≢ [] → IsWritten other (text ++ more) → ⊥

-- These are the tokens of the line, all at this spot: one after another, and behind the last one blanks alone.
abbrev pub AreTokens : Spot → List ℕ → List Token → Type 0
AreTokens spot line [] = AllPass is_blank line
AreTokens spot line (token ∷ tokens) =
    (rest : List ℕ) × BeginsWith line token.kind rest × (token.spot ≡ spot) × AreTokens spot rest tokens

-- the new list is the old one and behind it the tokens of the line
pub record AppendsTokens (spot : Spot) (line : List ℕ) (old new : List Token) : Type 0 where
  pub tokens : List Token
  pub are_tokens : AreTokens spot line tokens
  pub appended : new ≡ old ++ tokens
