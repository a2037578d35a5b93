use Rattle.form_stmts.specs.Reading.{terminals}
use Rattle.form_stmts.proofs.Declared.{switch_found, switch_none}
use Rattle.form_stmts.proofs.indices.read_switch.Goals as goal

pub returns-clause-found : goal.returns-clause-found
returns-clause-found c = switch_found c.switched.result (terminals c.args.tokens) c.switched.ensures

pub returns-clause-none : goal.returns-clause-none
returns-clause-none c = switch_none c.switched.result (terminals c.args.tokens) c.switched.ensures
