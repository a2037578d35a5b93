use Rattle.std.proofs.Common.{◌≡◌, ◌++◌, ℕ, List, length}
use Rattle.std.specs.Str.{IsAscii}
use denote.Text.{Utf8}
use denote.Shadow.{shadow}
use Rattle.form_base.specs.declared.spot.Spot.{Spot}
use Rattle.form_lexer.specs.declared.token.Token.{Token}
use Rattle.form_lexer.specs.Tokens.{AreTokens}
use Rattle.form_lexer.proofs.lexer.lex.Given as goal

-- the tokens that are read are the line's first ones, and the rest has the others
pub record IsReadSoFar (spot : Spot) (line : List ℕ) (old now : List Token) (rest : List ℕ) : Type 0 where
  pub made : List Token
  pub appended : now ≡ old ++ made
  pub goes_on : (more : List Token) → AreTokens spot rest more → AreTokens spot line (made ++ more)
  pub ascii : IsAscii rest

abbrev pub invariant-loop-shape : goal.invariant-loop-shape
invariant-loop-shape l = shadow (Utf8 l.rest) × IsReadSoFar l.spot l.line l.initial.tokens.items l.tokens.items l.rest

abbrev pub decreases-loop-shape : goal.decreases-loop-shape
decreases-loop-shape l = length l.rest
