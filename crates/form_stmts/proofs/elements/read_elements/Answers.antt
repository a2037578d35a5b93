use Rattle.form_stmts.specs.Reading.{terminals}
use Rattle.form_stmts.proofs.Members.{elements_found, elements_none}
use Rattle.form_stmts.proofs.elements.read_elements.Goals as goal

pub returns-clause-found : goal.returns-clause-found
returns-clause-found c = elements_found c.elements_to_end.result (terminals c.args.tokens) c.elements_to_end.ensures

pub returns-clause-none : goal.returns-clause-none
returns-clause-none c = elements_none c.elements_to_end.result (terminals c.args.tokens) c.elements_to_end.ensures
