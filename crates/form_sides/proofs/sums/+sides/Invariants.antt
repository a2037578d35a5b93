use Rattle.std.proofs.Common.{ℕ, ◌+◌, ◌*◌, ◌≤◌, Bool, List, length}
use Rattle.form_tree.specs.declared.tree.Piece.{Piece}
use Rattle.form_expand.specs.Calls.{IsFurther}
use Rattle.form_expand.specs.Readers.{list_of_calling}
use Rattle.form_expand.specs.Reading.{calling}
use Rattle.form_sides.specs.Parts.{HasFront, HasPart}
use Rattle.form_sides.proofs.sums.+sides.Given as goal

-- each call goes one function further, or into a parenthesis

abbrev pub decreases-arguments : goal.decreases-arguments
decreases-arguments l = l.deeper * 12 + 11

abbrev pub decreases-argument : goal.decreases-argument
decreases-argument l = l.deeper * 12 + 10

abbrev pub decreases-expression : goal.decreases-expression
decreases-expression l = l.deeper * 12 + 9

abbrev pub decreases-terms_of : goal.decreases-terms_of
decreases-terms_of l = l.deeper * 12 + 8

abbrev pub decreases-sum : goal.decreases-sum
decreases-sum l = l.deeper * 12 + 7

abbrev pub decreases-product : goal.decreases-product
decreases-product l = l.deeper * 12 + 6

abbrev pub decreases-further : goal.decreases-further
decreases-further l = l.deeper * 12 + 5

abbrev pub decreases-factor : goal.decreases-factor
decreases-factor l = l.deeper * 12 + 4

abbrev pub decreases-parenthesis : goal.decreases-parenthesis
decreases-parenthesis l = l.deeper * 12 + 3

abbrev pub decreases-read_call : goal.decreases-read_call
decreases-read_call l = l.deeper * 12 + 3

-- these products were read
abbrev pub invariant-sum-loop-rest : goal.invariant-sum-loop-rest
invariant-sum-loop-rest l = HasPart l.limit l.names l.pieces l.made.items l.rest

abbrev pub decreases-sum-loop-rest : goal.decreases-sum-loop-rest
decreases-sum-loop-rest l = length l.rest

-- whatever was read before, these factors too
abbrev pub invariant-further-loop-piece : goal.invariant-further-loop-piece
invariant-further-loop-piece l = record {
  front : (piece : Piece) (more : List Piece) → HasFront l.limit l.names piece more l.fn.front.items l.pieces → HasFront l.limit l.names piece more l.front.items l.rest;
  shorter : length l.rest ≤ length l.pieces;
}

abbrev pub decreases-further-loop-piece : goal.decreases-further-loop-piece
decreases-further-loop-piece l = length l.rest

-- these arguments were read, whatever the function is
abbrev pub invariant-arguments-loop-rest : goal.invariant-arguments-loop-rest
invariant-arguments-loop-rest l = (f : ℕ) (is_commuting : Bool) → IsFurther l.limit l.names (list_of_calling l.names (calling l.limit f is_commuting) l.pieces) f is_commuting l.all l.rest

abbrev pub decreases-arguments-loop-rest : goal.decreases-arguments-loop-rest
decreases-arguments-loop-rest l = length l.rest
