use Rattle.std.proofs.Common.{◌≡◌, ◌+◌, ◌*◌, ◌≤◌, Bool, length}
use Rattle.std.specs.Prelude.{replicate}
use Rattle.form_expand.specs.Calls.{IsFurther}
use Rattle.form_expand.specs.Factors.{IsSameRow, factor_lists}
use Rattle.form_expand.specs.Left.{times_by}
use Rattle.form_expand.specs.Listing.{followed}
use Rattle.form_expand.specs.Products.{product_left}
use Rattle.form_expand.specs.Reading.{calling, list_of_pieces, read_from}
use Rattle.form_expand.specs.Readers.{in_product, list_of_calling}
use Rattle.form_expand.specs.Streams.{stream_left, stream_whole}
use Rattle.form_expand.specs.Walks.{all_of}
use Rattle.form_expand.proofs.Called.{AreTaken}
use Rattle.form_expand.proofs.Leveled.{steps_ahead}
use Rattle.form_expand.proofs.+taking.Given as goal

-- each call goes one function further, or into a list within

abbrev pub decreases-stream::Stream::next : goal.decreases-stream::Stream::next
decreases-stream::Stream::next l = l.deeper * 32 + 31

abbrev pub decreases-stream::Stream::read : goal.decreases-stream::Stream::read
decreases-stream::Stream::read l = l.deeper * 32 + 30

abbrev pub decreases-reader::read_product : goal.decreases-reader::read_product
decreases-reader::read_product l = l.deeper * 32 + 29

abbrev pub decreases-reader::read_on : goal.decreases-reader::read_on
decreases-reader::read_on l = l.deeper * 32 + 28

abbrev pub decreases-reader::read_factor : goal.decreases-reader::read_factor
decreases-reader::read_factor l = l.deeper * 32 + 27

abbrev pub decreases-reader::read_parenthesis : goal.decreases-reader::read_parenthesis
decreases-reader::read_parenthesis l = l.deeper * 32 + 26

abbrev pub decreases-reader::read_function : goal.decreases-reader::read_function
decreases-reader::read_function l = l.deeper * 32 + 26

abbrev pub decreases-power::put_ended : goal.decreases-power::put_ended
decreases-power::put_ended l = l.deeper * 32 + 25

abbrev pub decreases-power::put_power : goal.decreases-power::put_power
decreases-power::put_power l = l.deeper * 32 + 24

abbrev pub decreases-power::put_sum : goal.decreases-power::put_sum
decreases-power::put_sum l = l.deeper * 32 + 24

abbrev pub decreases-power::put_whole_sum : goal.decreases-power::put_whole_sum
decreases-power::put_whole_sum l = l.deeper * 32 + 23

abbrev pub decreases-power::put_sums : goal.decreases-power::put_sums
decreases-power::put_sums l = l.deeper * 32 + 22

abbrev pub decreases-power::put_list : goal.decreases-power::put_list
decreases-power::put_list l = l.deeper * 32 + 21

abbrev pub decreases-again::list_again : goal.decreases-again::list_again
decreases-again::list_again l = l.deeper * 32 + 20

abbrev pub decreases-again::Again::whole_within : goal.decreases-again::Again::whole_within
decreases-again::Again::whole_within l = l.deeper * 32 + 19

abbrev pub decreases-reader::function_power : goal.decreases-reader::function_power
decreases-reader::function_power l = l.deeper * 32 + 18

abbrev pub decreases-function::function_list : goal.decreases-function::function_list
decreases-function::function_list l = l.deeper * 32 + 17

abbrev pub decreases-function::read_argument : goal.decreases-function::read_argument
decreases-function::read_argument l = l.deeper * 32 + 16

abbrev pub decreases-function::read_expression : goal.decreases-function::read_expression
decreases-function::read_expression l = l.deeper * 32 + 15

abbrev pub decreases-function::collected : goal.decreases-function::collected
decreases-function::collected l = l.deeper * 32 + 14

abbrev pub decreases-product::Product::next : goal.decreases-product::Product::next
decreases-product::Product::next l = l.deeper * 32 + 12

abbrev pub decreases-product::Product::take : goal.decreases-product::Product::take
decreases-product::Product::take l = l.deeper * 32 + 11

abbrev pub decreases-product::Level::take : goal.decreases-product::Level::take
decreases-product::Level::take l = l.deeper * 32 + 10

abbrev pub decreases-list::List::next_times : goal.decreases-list::List::next_times
decreases-list::List::next_times l = l.deeper * 32 + 9

abbrev pub decreases-again::Again::next_times : goal.decreases-again::Again::next_times
decreases-again::Again::next_times l = l.deeper * 32 + 8

abbrev pub invariant-product::Product::next-levels : goal.invariant-product::Product::next-levels
invariant-product::Product::next-levels l = product_left l.limit l.self ≡ product_left l.limit l.initial.self

abbrev pub decreases-product::Product::next-levels : goal.decreases-product::Product::next-levels
decreases-product::Product::next-levels l = steps_ahead l.limit l.self.levels.items l.self.place

abbrev pub invariant-stream::Stream::next-turns : goal.invariant-stream::Stream::next-turns
invariant-stream::Stream::next-turns l = record {
  left : stream_left l.self ≡ stream_left l.initial.self;
  whole : stream_whole l.self ≡ stream_whole l.initial.self;
}

-- each turn reads a product
abbrev pub decreases-stream::Stream::next-turns : goal.decreases-stream::Stream::next-turns
decreases-stream::Stream::next-turns l = length l.self.rest.now

abbrev pub invariant-again::Again::next_times-turns : goal.invariant-again::Again::next_times-turns
invariant-again::Again::next_times-turns l = record {
  left : times_by l.left (stream_left l.self-inside.stream) ≡ times_by l.left (stream_left l.initial.self-inside.stream);
  whole : stream_whole l.self-inside.stream ≡ stream_whole l.initial.self-inside.stream;
}

abbrev pub decreases-again::Again::next_times-turns : goal.decreases-again::Again::next_times-turns
decreases-again::Again::next_times-turns l = length (stream_left l.self-inside.stream).terms

-- these terms were taken from it
abbrev pub invariant-again::Again::whole_within-loop-made : goal.invariant-again::Again::whole_within-loop-made
invariant-again::Again::whole_within-loop-made l = record {
  left : followed (all_of l.terms.items) l.self.left ≡ l.initial.self.left;
  whole : l.self.whole ≡ l.initial.self.whole;
}

-- the factors before are read
abbrev pub invariant-reader::read_on-loop-piece : goal.invariant-reader::read_on-loop-piece
invariant-reader::read_on-loop-piece l = record {
  read : (is_minus : Bool) → read_from l.scope.names.now (in_product l.scope.limit is_minus (factor_lists l.scope.limit l.initial.factors)) l.fn.pieces
      ≡ read_from l.scope.names.now (in_product l.scope.limit is_minus (factor_lists l.scope.limit l.factors)) l.rest;
  shorter : length l.rest ≤ length l.fn.pieces;
}

abbrev pub decreases-reader::read_on-loop-piece : goal.decreases-reader::read_on-loop-piece
decreases-reader::read_on-loop-piece l = length l.rest

-- so many factors are there
abbrev pub invariant-power::put_sums-loop-made : goal.invariant-power::put_sums-loop-made
invariant-power::put_sums-loop-made l = IsSameRow l.scope.limit (replicate l._made (list_of_pieces l.scope.limit l.scope.names.now l.within)) (factor_lists l.scope.limit l.factors)

-- the arguments before are read
abbrev pub invariant-function::function_list-loop-rest : goal.invariant-function::function_list-loop-rest
invariant-function::function_list-loop-rest l =
    IsFurther l.scope.limit l.scope.names.now (list_of_calling l.scope.names.now (calling l.scope.limit l.function l.is_commuting) l.pieces) l.function l.is_commuting l.arguments l.rest

abbrev pub decreases-function::function_list-loop-rest : goal.decreases-function::function_list-loop-rest
decreases-function::function_list-loop-rest l = length l.rest

-- these terms were taken from the list
abbrev pub invariant-function::collected-turns : goal.invariant-function::collected-turns
invariant-function::collected-turns l = AreTaken l.collector (stream_left l.initial.list) (stream_left l.list)

abbrev pub decreases-function::collected-turns : goal.decreases-function::collected-turns
decreases-function::collected-turns l = length (stream_left l.list).terms
