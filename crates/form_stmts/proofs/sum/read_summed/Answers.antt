use Rattle.form_stmts.specs.Reading.{terminals}
use Rattle.form_stmts.proofs.Summed.{none_summed}
use Rattle.form_stmts.proofs.sum.read_summed.Goals as goal

pub returns-in-Ok-clause-none : goal.returns-in-Ok-clause-none
returns-in-Ok-clause-none c = none_summed c.sum_of.result c.args.name (terminals c.args.tokens) c.in-Ok.elements c.in-Ok.ensures.found c.sum_of.ensures
