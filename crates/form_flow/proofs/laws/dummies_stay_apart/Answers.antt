use Rattle.form_flow.proofs.Apart.{none_left, stay_apart}
use Rattle.form_flow.proofs.laws.dummies_stay_apart.Goals as goal

pub returns-clause-apart : goal.returns-clause-apart
returns-clause-apart c = λ is there. stay_apart there is

pub returns-clause-none_left : goal.returns-clause-none_left
returns-clause-none_left c = λ is there. none_left there is
