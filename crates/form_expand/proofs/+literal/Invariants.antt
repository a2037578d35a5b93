use Rattle.std.proofs.Common.{◌≡◌, ◌+◌, ◌*◌, length}
use Rattle.form_expand.specs.Listing.{limited, followed}
use Rattle.form_expand.specs.Reading.{list_of_pieces}
use Rattle.form_expand.specs.Walks.{all_of}
use Rattle.form_expand.proofs.LiteralCalls.{AreArguedTo}
use Rattle.form_expand.proofs.Literals.{IsReadTo}
use Rattle.form_expand.proofs.+literal.Given as goal

-- each call goes one function further, or into an argument

abbrev pub decreases-literal_arguments::few_terms : goal.decreases-literal_arguments::few_terms
decreases-literal_arguments::few_terms l = l.deeper * 9 + 8

abbrev pub decreases-literal_sum::literal_terms : goal.decreases-literal_sum::literal_terms
decreases-literal_sum::literal_terms l = l.deeper * 9 + 7

abbrev pub decreases-literal::read_literal : goal.decreases-literal::read_literal
decreases-literal::read_literal l = l.deeper * 9 + 6

abbrev pub decreases-literal::take : goal.decreases-literal::take
decreases-literal::take l = l.deeper * 9 + 5

abbrev pub decreases-literal::take_function : goal.decreases-literal::take_function
decreases-literal::take_function l = l.deeper * 9 + 4

abbrev pub decreases-literal_arguments::literal_arguments : goal.decreases-literal_arguments::literal_arguments
decreases-literal_arguments::literal_arguments l = l.deeper * 9 + 3

abbrev pub decreases-literal_arguments::read_one : goal.decreases-literal_arguments::read_one
decreases-literal_arguments::read_one l = l.deeper * 9 + 2

abbrev pub decreases-literal_arguments::read_sum : goal.decreases-literal_arguments::read_sum
decreases-literal_arguments::read_sum l = l.deeper * 9 + 1

abbrev pub decreases-literal_arguments::few_collected : goal.decreases-literal_arguments::few_collected
decreases-literal_arguments::few_collected l = l.deeper * 9

abbrev pub invariant-literal::read_literal-loop-piece : goal.invariant-literal::read_literal-loop-piece
invariant-literal::read_literal-loop-piece l = IsReadTo l.limit l.names l.fn.pieces l.is_minus l.term l.rest

abbrev pub decreases-literal::read_literal-loop-piece : goal.decreases-literal::read_literal-loop-piece
decreases-literal::read_literal-loop-piece l = length l.rest

-- the arguments before are read
abbrev pub invariant-literal_arguments::literal_arguments-loop-rest : goal.invariant-literal_arguments::literal_arguments-loop-rest
invariant-literal_arguments::literal_arguments-loop-rest l = AreArguedTo l.limit l.names l.fn.pieces l.arguments l.rest

abbrev pub decreases-literal_arguments::literal_arguments-loop-rest : goal.decreases-literal_arguments::literal_arguments-loop-rest
decreases-literal_arguments::literal_arguments-loop-rest l = length l.rest

-- the terms before are read
abbrev pub invariant-literal_sum::literal_terms-loop-rest : goal.invariant-literal_sum::literal_terms-loop-rest
invariant-literal_sum::literal_terms-loop-rest l = limited l.limit (followed (all_of l.fn.terms.items) (list_of_pieces l.limit l.names l.fn.pieces)) ≡ limited l.limit (followed (all_of l.made.items) (list_of_pieces l.limit l.names l.rest))

abbrev pub decreases-literal_sum::literal_terms-loop-rest : goal.decreases-literal_sum::literal_terms-loop-rest
decreases-literal_sum::literal_terms-loop-rest l = length l.rest
