use Rattle.form_stmts.specs.Reading.{terminals}
use Rattle.form_stmts.proofs.Listed.{found_or_none, none_or_none}
use Rattle.form_stmts.proofs.names.read_names_or_none.Goals as goal

pub returns-clause-found : goal.returns-clause-found
returns-clause-found c = found_or_none c.names_to_end.result (terminals c.args.tokens) c.names_to_end.ensures

pub returns-clause-none : goal.returns-clause-none
returns-clause-none c = none_or_none c.names_to_end.result (terminals c.args.tokens) c.names_to_end.ensures
