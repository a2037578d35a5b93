use Rattle.form_flow.proofs.Turning.{rows}
use Rattle.form_flow.proofs.laws.statements_in_a_row.Goals as goal

pub returns : goal.returns
returns c = λ at front rest m. rows at front rest m
