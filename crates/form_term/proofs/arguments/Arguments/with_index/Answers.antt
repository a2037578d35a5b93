use Rattle.form_term.specs.Term.{index}
use Rattle.form_term.proofs.Nesting.{one_more}
use Rattle.form_term.proofs.arguments.Arguments.with_index.Goals as goal

pub invariant_of-result : goal.invariant_of-result
invariant_of-result c = one_more c.self.inside.pieces.items c.put.new.pieces.items (index c.args.index) c.self.invariant tt c.in_ok-put.ensures
