-- Tokens that are taken one by one, as the grammar sees them.
use Rattle.std.specs.Prelude.{List, [], ◌∷◌, map, Bool, true, false, Option, Some, None, if◌then◌else◌}
use Rattle.std.specs.Vec.Iter.{into_iter_items}
use Rattle.std.specs.declared.vec.IntoIter.{IntoIter}
use Rattle.form_ast.specs.declared.expr.Sign.TheVariants as signs
use Rattle.form_lexer.specs.declared.token.Token.{Token}
use Rattle.form_grammar.specs.declared.terminal.Terminal.{Terminal}
use Rattle.form_grammar.specs.declared.terminal.Terminal.TheVariants as by_terminal
use Rattle.form_grammar.specs.Terminal.{terminal_of}
use Rattle.form_conditions.specs.declared.tokens.Nesting.{Nesting}
use Rattle.form_conditions.specs.declared.tokens.Nesting.TheVariants.{Opens, Closes, Neither}
use Rattle.form_conditions.specs.declared.tokens.Tokens.{Tokens}
use Rattle.form_conditions.specs.declared.tokens.Wanted.{Wanted}
use Rattle.form_conditions.specs.declared.tokens.Wanted.TheVariants as wanted

-- what is left of tokens
abbrev pub terminals : {A : Type 0} → IntoIter Token A → List Terminal
terminals tokens = map terminal_of (into_iter_items tokens)

-- with the one that has been looked at, where one has
abbrev pub behind_peeked : Option Token → List Terminal → List Terminal
behind_peeked None rest = rest
behind_peeked (Some token) rest = terminal_of token ∷ rest

abbrev pub left : Tokens → List Terminal
left tokens = behind_peeked tokens.peeked (terminals tokens.rest)

abbrev pub tail_of : {A : Type 0} → List A → List A
tail_of [] = []
tail_of (x ∷ xs) = xs

-- ---- the terminal at the front

abbrev pub is_wanted : Wanted → Terminal → Bool
is_wanted wanted.And by_terminal.And = true
is_wanted wanted.Or by_terminal.Or = true
is_wanted wanted.Over by_terminal.Over = true
is_wanted wanted.Comma by_terminal.Comma = true
is_wanted wanted.Open by_terminal.Open = true
is_wanted wanted.Close by_terminal.Close = true
is_wanted wanted.Plus (by_terminal.Sign signs.Plus) = true
is_wanted wanted.Minus (by_terminal.Sign signs.Minus) = true
is_wanted wanted.Name (by_terminal.Name name) = true
is_wanted _ _ = false

-- the text begins so
abbrev pub begins : Wanted → List Terminal → Bool
begins w [] = false
begins w (t ∷ rest) = is_wanted w t

-- what is left where it does
abbrev pub take : Wanted → List Terminal → Option (List Terminal)
take w text = if begins w text then Some (tail_of text) else None

-- whether a terminal opens or closes a parenthesis
abbrev pub nesting_of : Terminal → Nesting
nesting_of by_terminal.Open = Opens
nesting_of by_terminal.Close = Closes
nesting_of _ = Neither
