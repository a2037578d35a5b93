use Rattle.std.proofs.Common.{arith}
use Rattle.form_expand.specs.Products.{product_left}
use Rattle.form_expand.specs.Reading.{list_of_pieces}
use Rattle.form_expand.specs.Streams.{stream_left, stream_before}
use Rattle.form_expand.proofs.Streamed.{stream_taken, stream_over}
use Rattle.form_expand.proofs.stream.Stream.give.Goals as goal

pub returns-then-self-clause-next : goal.returns-then-self-clause-next
unfolding stream_before
returns-then-self-clause-next c =
    let s = c.args.self.now in
    stream_over s.scope.limit s.given s.is_minus (list_of_pieces s.scope.limit s.scope.names.now s.rest.now) c.args.term (product_left s.scope.limit s.product) c.if-self.true

pub returns-clause-next : goal.returns-clause-next
unfolding stream_before stream_left
returns-clause-next c =
    let s = c.args.self.now in
    rw c.signed.ensures (stream_taken s.scope.limit s.given s.is_minus (list_of_pieces s.scope.limit s.scope.names.now s.rest.now) c.args.term (product_left s.scope.limit s.product) (omega arith))
