use Rattle.form_conditions.specs.Grammar.{BeginsWith}
use Rattle.form_stmts.specs.Reading.{terminals}
use Rattle.form_stmts.specs.Statement.{StandsBehind}
use Rattle.form_stmts.specs.declared.keyword.Keyword.TheVariants.{If}
use Rattle.form_stmts.proofs.Excluded.{excluded}
use Rattle.form_stmts.proofs.Lined.{begins_if}
use Rattle.form_stmts.proofs.statement.take_behind.Goals as goal

pub returns-in-Err-clause-none : goal.returns-in-Err-clause-none
returns-in-Err-clause-none c = rw c.in-If.is (excluded (BeginsWith (terminals c.args.rest.now)) (StandsBehind If (terminals c.args.rest.now)) c.in-Err.error (begins_if (terminals c.args.rest.now)) c.in-Err.ensures.none)
