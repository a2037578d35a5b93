use Rattle.form_flow.proofs.Rewritten.{rewritten_recordable}
use Rattle.form_flow.proofs.Turned.{dummies_recordable, summed_recordable}
use Rattle.form_flow.proofs.laws.leaves_are_recordable.Goals as goal

pub returns-clause-rewritten : goal.returns-clause-rewritten
returns-clause-rewritten c = rewritten_recordable

pub returns-clause-dummies : goal.returns-clause-dummies
returns-clause-dummies c = dummies_recordable

pub returns-clause-numbers : goal.returns-clause-numbers
returns-clause-numbers c = summed_recordable
