use Rattle.std.proofs.Common.{ap, ◌∙◌}
use Rattle.std.specs.Ordering.{nat_cmp, ordering_then}
use Rattle.std.specs.Cmp.Lexicographic.{slice_cmp}
use Rattle.form_term.specs.Arguments.{arguments_of}
use Rattle.form_term.specs.Pieces.{piece_order}
use Rattle.form_term.specs.Term.{pieces_of_arguments}
use Rattle.form_term.proofs.Compared.{arguments_compared}
use Rattle.form_term.proofs.ReadBack.{call_arguments, read_back}
use Rattle.form_term.proofs.laws.order_of_arguments.Goals as goal

pub returns-clause-pieces : goal.returns-clause-pieces
returns-clause-pieces c = arguments_compared

pub returns-clause-calls : goal.returns-clause-calls
returns-clause-calls c = λ f g lawful other.
    let left = read_back f.pieces (call_arguments f lawful) in
    let right = read_back g.pieces (call_arguments g other) in
    ap (λ xs. ordering_then (nat_cmp f.function g.function) (slice_cmp piece_order xs g.pieces)) left.0
    ∙ ap (λ ys. ordering_then (nat_cmp f.function g.function) (slice_cmp piece_order (pieces_of_arguments (arguments_of f.pieces)) ys)) right.0
    ∙ ap (ordering_then (nat_cmp f.function g.function)) (arguments_compared (arguments_of f.pieces) (arguments_of g.pieces) left.1 right.1)
