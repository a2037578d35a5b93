use Rattle.form_term.specs.Term.{vector}
use Rattle.form_term.proofs.Nesting.{one_more}
use Rattle.form_term.proofs.arguments.Arguments.with_vector.Goals as goal

pub invariant_of-result : goal.invariant_of-result
invariant_of-result c = one_more c.self.inside.pieces.items c.put.new.pieces.items (vector c.args.vector) c.self.invariant tt c.in_ok-put.ensures
