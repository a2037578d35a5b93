use Rattle.std.proofs.Common.{rules}
use Rattle.form_stmts.specs.Reading.{terminals}
use Rattle.form_stmts.specs.Statement.{AreElements, IsSet}
use Rattle.form_stmts.proofs.Excluded.{excluded, elements_behind}
use Rattle.form_stmts.proofs.statement.read_set.Goals as goal

pub returns-in-Err-clause-none : goal.returns-in-Err-clause-none
returns-in-Err-clause-none c = excluded (AreElements (terminals c.take_colon.new.tokens)) (IsSet (terminals c.args.tokens)) c.in-Err.error (elements_behind (terminals c.args.tokens) (terminals c.take_name.new.tokens) (terminals c.take_colon.new.tokens) c.in-Some.name (search rules) (search rules)) c.in-Err.ensures.none
