use Rattle.form_stmts.specs.Reading.{terminals}
use Rattle.form_stmts.proofs.Listed.{found, none}
use Rattle.form_stmts.proofs.names.read_names.Goals as goal

pub returns-clause-found : goal.returns-clause-found
returns-clause-found c = found c.names_to_end.result (terminals c.args.tokens) c.names_to_end.ensures

pub returns-clause-none : goal.returns-clause-none
returns-clause-none c = none c.names_to_end.result (terminals c.args.tokens) c.names_to_end.ensures
