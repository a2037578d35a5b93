use Rattle.form_flow.proofs.Placing.{checked_placed, side_placed}
use Rattle.form_flow.proofs.laws.names_of_checked_statements.Goals as goal

pub returns-clause-statements : goal.returns-clause-statements
returns-clause-statements c = checked_placed

pub returns-clause-right_sides : goal.returns-clause-right_sides
returns-clause-right_sides c = λ names stands pieces h. side_placed names pieces h
