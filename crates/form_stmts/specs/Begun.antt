-- The statement that is begun, by what is kept of it.
use Rattle.std.specs.Prelude.{◌≡◌, ◌&&◌, List, [], ◌∷◌, ◌++◌, map, Bool, true, false, Option, Some, None}
use Rattle.form_lexer.specs.declared.mark.Mark as marks
use Rattle.form_lexer.specs.declared.mark.Mark.TheVariants as by_mark
use Rattle.form_lexer.specs.declared.token.Token.{Token}
use Rattle.form_lexer.specs.declared.token.TokenKind.{TokenKind}
use Rattle.form_lexer.specs.declared.token.TokenKind.TheVariants as by_kind
use Rattle.form_grammar.specs.declared.right_side.RightSide.{RightSide}
use Rattle.form_grammar.specs.Parts.{HasRead}
use Rattle.form_grammar.specs.Terminal.{terminal_of}
use Rattle.form_stmts.specs.declared.keyword.Keyword.{Keyword}
use Rattle.form_stmts.specs.declared.keyword.Keyword.TheVariants.{Local}
use Rattle.form_stmts.specs.Keyword.{keyword_of}

abbrev pub is_local : Option Keyword → Bool
is_local (Some Local) = true
is_local _ = false

abbrev pub is_local_kind : TokenKind → Bool
is_local_kind (by_kind.Name name) = is_local (keyword_of name)
is_local_kind _ = false

abbrev pub is_name_kind : TokenKind → Bool
is_name_kind (by_kind.Name name) = true
is_name_kind _ = false

abbrev pub is_equals_mark : marks.Mark → Bool
is_equals_mark by_mark.Equals = true
is_equals_mark _ = false

abbrev pub is_equals_kind : TokenKind → Bool
is_equals_kind (by_kind.Mark mark) = is_equals_mark mark
is_equals_kind _ = false

-- a definition up to its `=`
abbrev pub is_front : List Token → Bool
is_front (keyword ∷ name ∷ equals ∷ []) = is_local_kind keyword.kind && (is_name_kind name.kind && is_equals_kind equals.kind)
is_front _ = false

-- A definition that is begun with these tokens: its front, and behind that what is read of its right side.
pub record IsBegun (tokens : List Token) (right_side : RightSide) (begun : List Token) : Type 0 where
  pub rest : List Token
  pub all : begun ≡ tokens ++ rest
  pub front : is_front tokens ≡ true
  pub read : HasRead (map terminal_of rest) right_side

-- the tokens of the statement that is begun, where these are kept, and this of a right side
abbrev pub AreBegun : List Token → Option RightSide → List Token → Type 0
AreBegun tokens None begun = begun ≡ tokens
AreBegun tokens (Some right_side) begun = IsBegun tokens right_side begun
