use Rattle.std.proofs.Common.{rules}
use Rattle.form_grammar.specs.Grammar.{IsExpr}
use Rattle.form_stmts.specs.Reading.{terminals}
use Rattle.form_stmts.specs.Statement.{IsDefinition}
use Rattle.form_stmts.proofs.Excluded.{excluded, right_side}
use Rattle.form_stmts.proofs.statement.read_definition.Goals as goal

pub returns-in-Err-clause-none : goal.returns-in-Err-clause-none
returns-in-Err-clause-none c = excluded (IsExpr (terminals c.take_equals.new.tokens)) (IsDefinition (terminals c.args.tokens)) c.in-Err.error (right_side (terminals c.args.tokens) (terminals c.take_name.new.tokens) (terminals c.take_equals.new.tokens) c.in-Some.name (search rules) (search rules)) c.in-Err.ensures.none
