use Rattle.form_conditions.proofs.Read as read
use Rattle.form_conditions.proofs.laws.one_front.Goals as goal

pub returns-clause-front : goal.returns-clause-front
returns-clause-front c = read.one_front c.pattern_is_read.ensures

pub returns-clause-front_or_none : goal.returns-clause-front_or_none
returns-clause-front_or_none c = read.front_or_none c.pattern_is_read.ensures

pub returns-clause-one : goal.returns-clause-one
returns-clause-one c = read.one_whole c.pattern_is_read.ensures

pub returns-clause-some_or_none : goal.returns-clause-some_or_none
returns-clause-some_or_none c = read.whole_or_none c.pattern_is_read.ensures
