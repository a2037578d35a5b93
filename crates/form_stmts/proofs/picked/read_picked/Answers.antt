use Rattle.form_stmts.specs.Reading.{terminals}
use Rattle.form_stmts.proofs.Pickings.{picked_found, picked_none}
use Rattle.form_stmts.proofs.picked.read_picked.Goals as goal

pub returns-clause-found : goal.returns-clause-found
returns-clause-found c = picked_found c.picked_to_end.result (terminals c.args.tokens) c.picked_to_end.ensures

pub returns-clause-none : goal.returns-clause-none
returns-clause-none c = picked_none c.picked_to_end.result (terminals c.args.tokens) c.picked_to_end.ensures
