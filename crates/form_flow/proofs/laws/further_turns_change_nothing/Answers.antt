use Rattle.form_flow.proofs.Turning.{one_turn_more}
use Rattle.form_flow.proofs.laws.further_turns_change_nothing.Goals as goal

pub returns : goal.returns
returns c = λ n once m acted h. one_turn_more once n m acted h
