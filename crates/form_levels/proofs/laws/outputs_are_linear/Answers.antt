use Rattle.form_levels.proofs.Linear.{run_linear, run_linear_from_one, outputs_linear}
use Rattle.form_levels.proofs.laws.outputs_are_linear.Goals as goal

pub returns-clause-run : goal.returns-clause-run
returns-clause-run c = λ at ss x m. run_linear x at ss m

pub returns-clause-one : goal.returns-clause-one
returns-clause-one c = λ at ss x t. run_linear_from_one x at ss t

pub returns-clause-outputs : goal.returns-clause-outputs
returns-clause-outputs c = λ k x m. outputs_linear x k m
