use Rattle.form_conditions.specs.Tokens.{terminals}
use Rattle.form_conditions.proofs.Read.{take_found, take_none}
use Rattle.form_conditions.proofs.condition.take_condition.Goals as goal

pub returns-clause-found : goal.returns-clause-found
returns-clause-found c = take_found c.pattern_is_read.ensures c.take_front.result (terminals c.args.tokens.now) (terminals c.take_front.new.tokens) c.take_front.ensures

pub returns-clause-none : goal.returns-clause-none
returns-clause-none c = take_none c.pattern_is_read.ensures c.take_front.result (terminals c.args.tokens.now) (terminals c.take_front.new.tokens) c.take_front.ensures
