use Rattle.form_term.proofs.ReadBack.{read_back, call_arguments}
use Rattle.form_term.proofs.laws.pieces_of_calls.Goals as goal

pub returns : goal.returns
returns c = λ f lawful. read_back f.pieces (call_arguments f lawful)
