-- Reading the front of a text as one token. That this reads the tokens of Tokens, each as it is written, is proved.
use Rattle.std.specs.Prelude.{◌<◌, ℕ, ◌+◌, ◌==◌, Bool, if◌then◌else◌, List, [], ◌∷◌, length, take, drop, position, Option, Some, None, ◌&&◌}
use Rattle.std.specs.List.{prefix_len}
use Rattle.std.specs.Str.{IsAscii}
use Rattle.std.specs.Char.{is_ascii_digit, is_ascii_alphabetic, is_ascii_alphanumeric}
use Rattle.form_lexer.specs.declared.mark.Mark as marks
use Rattle.form_lexer.specs.declared.mark.Mark.TheVariants.{And, Or, EqualTo, NotEqualTo, AtMost, AtLeast, Minus, Plus, Times, Over, Power, Open, Close, OpenBrace, CloseBrace, Comma, Semicolon, Colon, Equals, Period, Question, Less, Greater}
use Rattle.form_lexer.specs.declared.mark.BuiltIn.TheVariants.{Imaginary, Delta, Gamma}
use Rattle.form_lexer.specs.declared.shape.Shape.{Shape}
use Rattle.form_lexer.specs.declared.shape.Shape.TheVariants as shapes
use Rattle.form_lexer.specs.declared.token.TokenKind.{TokenKind}
use Rattle.form_lexer.specs.declared.token.TokenKind.TheVariants as kinds
use Rattle.form_number.specs.Numbers.{value_of}
use Rattle.form_lexer.specs.Tokens.{BeginsWith}

-- the kind of a token of this shape that is written so
abbrev pub kind_of : Shape → List ℕ → TokenKind
kind_of shapes.Number text = kinds.Number (value_of text)
kind_of shapes.Name text = kinds.Name text
kind_of (shapes.BuiltIn built_in) text = kinds.BuiltIn built_in
kind_of (shapes.Mark mark) text = kinds.Mark mark
kind_of shapes.Stray text = kinds.Stray

-- the mark of two characters
unfoldable pub double_mark : ℕ → ℕ → Option marks.Mark
double_mark c d =
    if (c == 38) && (d == 38) then Some And
    else if (c == 124) && (d == 124) then Some Or
    else if (c == 61) && (d == 61) then Some EqualTo
    else if (c == 33) && (d == 61) then Some NotEqualTo
    else if (c == 60) && (d == 61) then Some AtMost
    else if (c == 62) && (d == 61) then Some AtLeast
    else None

-- the mark of one character
unfoldable pub single_mark : ℕ → Option marks.Mark
single_mark c =
    if c == 45 then Some Minus
    else if c == 43 then Some Plus
    else if c == 42 then Some Times
    else if c == 47 then Some Over
    else if c == 94 then Some Power
    else if c == 40 then Some Open
    else if c == 41 then Some Close
    else if c == 123 then Some OpenBrace
    else if c == 125 then Some CloseBrace
    else if c == 44 then Some Comma
    else if c == 59 then Some Semicolon
    else if c == 58 then Some Colon
    else if c == 61 then Some Equals
    else if c == 46 then Some Period
    else if c == 63 then Some Question
    else if c == 60 then Some Less
    else if c == 62 then Some Greater
    else None

-- a word that ends in underscores
unfoldable pub underscored : List ℕ → Shape
underscored [] = shapes.Stray
underscored (c ∷ []) = shapes.Stray
underscored (c ∷ d ∷ e ∷ more) = shapes.Stray
underscored (c ∷ d ∷ []) =
    if (c == 105) && (d == 95) then shapes.BuiltIn Imaginary
    else if (c == 100) && (d == 95) then shapes.BuiltIn Delta
    else if (c == 103) && (d == 95) then shapes.BuiltIn Gamma
    else shapes.Stray

-- how many elements from the front on pass
abbrev pub front : (ℕ → Bool) → List ℕ → ℕ
front passes text = prefix_len passes text

unfoldable pub number_at : List ℕ → Shape × ℕ
number_at text = (shapes.Number, front is_ascii_digit text)

-- a word of so many letters and digits and so many underscores
abbrev pub word_of : ℕ → ℕ → List ℕ → Shape × ℕ
word_of letters underscores text =
    if letters + underscores == letters then (shapes.Name, letters + underscores)
    else (underscored (take (letters + underscores) text), letters + underscores)

unfoldable pub word_at : List ℕ → Shape × ℕ
word_at text =
    let letters = front is_ascii_alphanumeric text in
    word_of letters (front (λ c. c == 95) (drop letters text)) text

abbrev pub closed_at : Option ℕ → List ℕ → Shape × ℕ
closed_at (Some end) text = (shapes.Name, end + 1)
closed_at None text = (shapes.Stray, length text)

unfoldable pub bracket_at : List ℕ → Shape × ℕ
bracket_at text = closed_at (position (λ c. c == 93) text) text

abbrev pub or_single : Option marks.Mark → ℕ → Shape × ℕ
or_single (Some mark) c = (shapes.Mark mark, 2)
or_single None c = single (single_mark c) where
  single : Option marks.Mark → Shape × ℕ
  single (Some mark) = (shapes.Mark mark, 1)
  single None = (shapes.Stray, 1)

abbrev pub doubled : List ℕ → ℕ → Option marks.Mark
doubled [] c = None
doubled (d ∷ more) c = double_mark c d

unfoldable pub mark_at : List ℕ → Shape × ℕ
mark_at [] = (shapes.Stray, 1)
mark_at (c ∷ cs) = or_single (doubled cs c) c

unfoldable pub token_at : List ℕ → Shape × ℕ
token_at [] = mark_at []
token_at (c ∷ cs) =
    if is_ascii_digit c then number_at (c ∷ cs)
    else if is_ascii_alphabetic c then word_at (c ∷ cs)
    else if c == 91 then bracket_at (c ∷ cs)
    else mark_at (c ∷ cs)

-- the line goes on with a token of this shape and text, and then with this rest
pub record IsNext (line : List ℕ) (shape : Shape) (text rest : List ℕ) : Type 0 where
  pub begins : BeginsWith line (kind_of shape text) rest
  pub ascii : IsAscii rest
  pub shorter : length rest < length line
