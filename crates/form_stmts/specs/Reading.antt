-- Reading the tokens of a statement from the front.
use Rattle.std.specs.Prelude.{List, [], ◌∷◌, ◌++◌, map, Bool, Option, Some, None, if◌then◌else◌}
use Rattle.std.specs.Vec.Iter.{into_iter_items}
use Rattle.std.specs.declared.vec.IntoIter.{IntoIter}
use Rattle.form_ast.specs.declared.expr.Spelled.{Spelled}
use Rattle.form_lexer.specs.declared.token.Token.{Token}
use Rattle.form_grammar.specs.Terminal.{terminal_of}
use Rattle.form_grammar.specs.declared.terminal.Terminal.{Terminal}
use Rattle.form_grammar.specs.declared.terminal.Terminal.TheVariants as by_terminal
use Rattle.form_stmts.specs.declared.names.Last.{Last}
use Rattle.form_stmts.specs.declared.names.Last.TheVariants.{Nothing, Name, Comma}

-- what is left of tokens, as the grammar sees it
abbrev pub terminals : {A : Type 0} → IntoIter Token A → List Terminal
terminals tokens = map terminal_of (into_iter_items tokens)

-- a name at the front, and what follows it
abbrev pub front_name : List Terminal → Option (Spelled × List Terminal)
front_name (by_terminal.Name name ∷ rest) = Some (name, rest)
front_name _ = None

-- what follows a `=` at the front
abbrev pub after_equals : List Terminal → Option (List Terminal)
after_equals (by_terminal.Equals ∷ rest) = Some rest
after_equals _ = None

-- what follows a `:` at the front
abbrev pub after_colon : List Terminal → Option (List Terminal)
after_colon (by_terminal.Colon ∷ rest) = Some rest
after_colon _ = None

-- the front, and what is left behind it then
abbrev pub with_rest : {X : Type 0} → Option X → List Terminal → Option (X × List Terminal)
with_rest None rest = None
with_rest (Some x) rest = Some (x, rest)

-- the names, where they may end so
abbrev pub ended : Bool → Last → List Spelled → Option (List Spelled)
ended may_be_none Name names = Some names
ended may_be_none Nothing names = if may_be_none then Some names else None
ended may_be_none Comma names = None

-- the names with what a comma lets follow
abbrev pub after_comma : {X : Type 0} → Last → X → X → X
after_comma Name go_on stop = go_on
after_comma _ go_on stop = stop

-- the names that reading goes on to, behind those that are read
unfoldable pub names_from : Bool → Last → List Spelled → List Terminal → Option (List Spelled)
names_from may_be_none last names [] = ended may_be_none last names
names_from may_be_none last names (by_terminal.Name name ∷ rest) = names_from may_be_none Name (names ++ name ∷ []) rest
names_from may_be_none last names (by_terminal.Comma ∷ rest) = after_comma last (names_from may_be_none Comma names rest) None
names_from may_be_none last names (_ ∷ rest) = None
