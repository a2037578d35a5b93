use Rattle.std.proofs.Common.{◌++◌, ℕ, List, length, map}
use Rattle.std.specs.Str.{IsAscii}
use denote.Text.{Utf8}
use denote.Shadow.{shadow}
use Rattle.form_base.specs.declared.spot.Spot.{Spot}
use Rattle.form_lexer.specs.declared.token.Token.{Token}
use Rattle.form_lexer.specs.Tokens.{AreTokens}
use Rattle.form_stmts.specs.declared.program.Reader.{Reader}
use Rattle.form_stmts.specs.Program.{token as lexed_token}
use Rattle.form_stmts.specs.Progress.{ReadsOn}
use Rattle.form_stmts.proofs.program.Reader.take_line.Given as goal

-- reading has come so far by the line's first tokens, and the rest has the others
pub record HasComeTo (spot : Spot) (line : List ℕ) (old now : Reader) (rest : List ℕ) : Type 0 where
  pub made : List Token
  pub read : ReadsOn old (map lexed_token made) now
  pub goes_on : (more : List Token) → AreTokens spot rest more → AreTokens spot line (made ++ more)
  pub ascii : IsAscii rest

abbrev pub invariant-loop-shape : goal.invariant-loop-shape
invariant-loop-shape l = shadow (Utf8 l.rest) × HasComeTo l.spot l.initial.rest l.initial.self l.self l.rest

abbrev pub decreases-loop-shape : goal.decreases-loop-shape
decreases-loop-shape l = length l.rest
