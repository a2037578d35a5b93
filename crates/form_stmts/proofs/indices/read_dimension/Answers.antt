use Rattle.form_stmts.specs.Reading.{terminals}
use Rattle.form_stmts.proofs.Declared.{dimension_found, dimension_none}
use Rattle.form_stmts.proofs.indices.read_dimension.Goals as goal

pub returns-clause-found : goal.returns-clause-found
returns-clause-found c = dimension_found c.dimension.result (terminals c.args.tokens) c.dimension.ensures

pub returns-clause-none : goal.returns-clause-none
returns-clause-none c = dimension_none c.dimension.result (terminals c.args.tokens) c.dimension.ensures
