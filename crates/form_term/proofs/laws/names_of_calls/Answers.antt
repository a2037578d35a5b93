use Rattle.form_term.proofs.Named.{read_named, written_named, term_pieces, pieces_term}
use Rattle.form_term.proofs.ReadBack.{call_arguments}
use Rattle.form_term.proofs.laws.names_of_calls.Goals as goal

pub returns-clause-arguments : goal.returns-clause-arguments
returns-clause-arguments c = λ names call h. (read_named names call.pieces (call_arguments call h), written_named names call.pieces (call_arguments call h))

pub returns-clause-terms : goal.returns-clause-terms
returns-clause-terms c = λ names t. (term_pieces names t, pieces_term names t)
