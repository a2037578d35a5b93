-- Tokens as the grammar sees them.
use Rattle.form_ast.specs.declared.expr.Sign.TheVariants as signs
use Rattle.form_lexer.specs.declared.mark.Mark as marks
use Rattle.form_lexer.specs.declared.mark.Mark.TheVariants.{Plus, Minus}
use Rattle.form_lexer.specs.declared.mark.Mark.TheVariants as mark
use Rattle.form_lexer.specs.declared.mark.BuiltIn as built_ins
use Rattle.form_lexer.specs.declared.mark.BuiltIn.TheVariants as built_in
use Rattle.form_lexer.specs.declared.token.Token.{Token}
use Rattle.form_lexer.specs.declared.token.TokenKind.{TokenKind}
use Rattle.form_lexer.specs.declared.token.TokenKind.TheVariants as kind
use Rattle.form_base.specs.declared.comparison.Comparison.TheVariants.{EqualTo, NotEqualTo, Less, Greater, AtMost, AtLeast}
use Rattle.form_base.specs.declared.spot.Spot.{Spot}
use Rattle.form_grammar.specs.declared.terminal.Terminal.{Terminal}
use Rattle.form_grammar.specs.declared.terminal.Terminal.TheVariants.{Number, Name, Imaginary, Delta, Sign, Times, Over, Raise, Open, Close, Comma, Period, Equals, Question, OpenBrace, CloseBrace, Colon, And, Or, Comparison, Other}

-- a mark as the grammar sees it
abbrev pub mark_terminal : marks.Mark → Terminal
mark_terminal mark.Plus = Sign signs.Plus
mark_terminal mark.Minus = Sign signs.Minus
mark_terminal mark.Times = Times
mark_terminal mark.Over = Over
mark_terminal mark.Power = Raise
mark_terminal mark.Open = Open
mark_terminal mark.Close = Close
mark_terminal mark.Comma = Comma
mark_terminal mark.Period = Period
mark_terminal mark.Equals = Equals
mark_terminal mark.Question = Question
mark_terminal mark.OpenBrace = OpenBrace
mark_terminal mark.CloseBrace = CloseBrace
mark_terminal mark.Colon = Colon
mark_terminal mark.And = And
mark_terminal mark.Or = Or
mark_terminal mark.EqualTo = Comparison EqualTo
mark_terminal mark.NotEqualTo = Comparison NotEqualTo
mark_terminal mark.Less = Comparison Less
mark_terminal mark.Greater = Comparison Greater
mark_terminal mark.AtMost = Comparison AtMost
mark_terminal mark.AtLeast = Comparison AtLeast
mark_terminal mark.Semicolon = Other

-- a name of the language: `g_` stands nowhere yet
abbrev pub built_in_terminal : built_ins.BuiltIn → Spot → Terminal
built_in_terminal built_in.Imaginary spot = Imaginary spot
built_in_terminal built_in.Delta spot = Delta spot
built_in_terminal built_in.Gamma spot = Other

abbrev pub kind_terminal : TokenKind → Spot → Terminal
kind_terminal (kind.Number value) spot = Number (record { value = value; spot = spot })
kind_terminal (kind.Name name) spot = Name (record { name = name; spot = spot })
kind_terminal (kind.BuiltIn name) spot = built_in_terminal name spot
kind_terminal (kind.Mark mark) spot = mark_terminal mark
kind_terminal kind.Stray spot = Other

-- a token as the grammar sees it: numbers and names keep their spots, and marks are marks wherever they stand
abbrev pub terminal_of : Token → Terminal
terminal_of token = kind_terminal token.kind token.spot
