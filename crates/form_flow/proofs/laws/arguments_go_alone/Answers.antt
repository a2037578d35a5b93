use Rattle.form_flow.proofs.Separate.{go_alone}
use Rattle.form_flow.proofs.laws.arguments_go_alone.Goals as goal

pub returns : goal.returns
returns c = go_alone
