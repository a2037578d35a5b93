use Rattle.form_flow.proofs.Recordable.{run_summands, run_recordable, outputs_recordable}
use Rattle.form_flow.proofs.laws.outputs_are_recordable.Goals as goal

pub returns-clause-summands : goal.returns-clause-summands
returns-clause-summands c = run_summands

pub returns-clause-recordable : goal.returns-clause-recordable
returns-clause-recordable c = run_recordable

pub returns-clause-within : goal.returns-clause-within
returns-clause-within c = outputs_recordable
