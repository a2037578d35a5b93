use Rattle.form_term.specs.Term.{expression}
use Rattle.form_term.specs.Monomial.{summands_of}
use Rattle.form_term.proofs.Nesting.{one_more, expression_lawful}
use Rattle.form_term.proofs.arguments.Arguments.with_expression.Goals as goal

pub invariant_of-result : goal.invariant_of-result
invariant_of-result c =
    one_more c.self.inside.pieces.items c.put_expression.new.pieces.items (expression (summands_of c.args.list.now)) c.self.invariant
    (expression_lawful c.args.list.now c.requires.rising c.requires.present c.in_ok-put_expression.ensures.lawful) c.in_ok-put_expression.ensures.written
