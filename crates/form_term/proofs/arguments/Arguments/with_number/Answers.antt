use Rattle.form_term.specs.Term.{one}
use Rattle.form_term.specs.Monomial.{number_argument}
use Rattle.form_term.proofs.Nesting.{one_more, alone_lawful, one_lawful}
use Rattle.form_term.proofs.arguments.Arguments.with_number.Goals as goal

pub invariant_of-result : goal.invariant_of-result
invariant_of-result c =
    one_more c.self.inside.pieces.items c.extend_from_slice.new.self.items (number_argument c.args.number) c.self.invariant
    (alone_lawful (record { coefficient = c.args.number; term = one }) c.requires c.end_of_term-end.ensures.lowest one_lawful) (rw c.end_of_term-end.ensures.piece at c.in_ok-extend_from_slice.ensures.items)
