use Rattle.form_flow.proofs.FreeNumbers.{new_is_free, new_is_least}
use Rattle.form_flow.proofs.laws.dummies_are_new.Goals as goal

pub returns-clause-free : goal.returns-clause-free
returns-clause-free c = new_is_free

pub returns-clause-least : goal.returns-clause-least
returns-clause-least c = new_is_least
