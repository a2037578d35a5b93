use Rattle.form_stmts.specs.Reading.{terminals}
use Rattle.form_stmts.proofs.Declared.{indices_found, indices_none}
use Rattle.form_stmts.proofs.indices.read_indices.Goals as goal

pub returns-clause-found : goal.returns-clause-found
returns-clause-found c = indices_found c.indices_to_end.result (terminals c.args.tokens) c.indices_to_end.ensures

pub returns-clause-none : goal.returns-clause-none
returns-clause-none c = indices_none c.indices_to_end.result (terminals c.args.tokens) c.indices_to_end.ensures
