use Rattle.std.proofs.Common.{◌++◌, ◌≡◌, Some, None, map, rules}
use Rattle.form_grammar.specs.Grammar.{IsExpr}
use Rattle.form_grammar.specs.Terminal.{terminal_of}
use Rattle.form_stmts.specs.Reading.{front_name, terminals}
use Rattle.form_stmts.specs.Statement.{ReadsSo}
use Rattle.form_stmts.proofs.Excluded.{excluded}
use Rattle.form_stmts.proofs.Fronts.{front_from, right_side_read, second_name}
use Rattle.form_stmts.proofs.statement.end_definition.Goals as goal

pub returns-clause-none : goal.returns-clause-none
returns-clause-none c = λ rest front read.
    let tokens = c.args.tokens.items in
    excluded (IsExpr rest) (ReadsSo (map terminal_of tokens ++ rest)) c.in-Err.error (right_side_read tokens rest (front_from tokens front)) (c.in-Err.ensures.none rest read)

pub returns-in_default-take_name-clause-none : goal.returns-in_default-take_name-clause-none
returns-in_default-take_name-clause-none c = λ rest front read s h.
    let tokens = c.args.tokens.items in
    let after = terminals c.take_name.new.tokens in
    let first : front_name (map terminal_of tokens) ≡ Some (c.in-Some.keyword, after) = search rules in
    let none : front_name after ≡ None = search rules in
    second_name tokens (front_from tokens front) c.in-Some.keyword after first none
