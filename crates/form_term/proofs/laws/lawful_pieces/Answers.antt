use Rattle.form_term.proofs.Nesting.{call_lawful}
use Rattle.form_term.proofs.ReadBack.{read_back, call_arguments}
use Rattle.form_term.proofs.laws.lawful_pieces.Goals as goal

pub returns-clause-read : goal.returns-clause-read
returns-clause-read c = read_back

pub returns-clause-calls : goal.returns-clause-calls
returns-clause-calls c = λ f. (call_arguments f, call_lawful f)
