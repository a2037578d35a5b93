use Rattle.form_conditions.specs.Tokens.{terminals}
use Rattle.form_conditions.proofs.Read.{whole_found, whole_none}
use Rattle.form_conditions.proofs.condition.read_condition.Goals as goal

pub returns-clause-found : goal.returns-clause-found
returns-clause-found c = whole_found c.pattern_is_read.ensures c.read_whole.result (terminals c.args.tokens) c.read_whole.ensures

pub returns-clause-none : goal.returns-clause-none
returns-clause-none c = whole_none c.pattern_is_read.ensures c.read_whole.result (terminals c.args.tokens) c.read_whole.ensures
