use Rattle.form_expand.specs.Products.{product_left}
use Rattle.form_expand.specs.Streams.{stream_left}
use Rattle.form_expand.proofs.Streamed.{stream_begun}
use Rattle.form_expand.proofs.stream.Stream.restart.Goals as goal

pub returns-clause-left : goal.returns-clause-left
unfolding stream_left
returns-clause-left c =
    let s = c.args.self.now in
    let max = s.scope.limit in
    stream_begun max s.scope.names.now s.is_minus s.pieces.now (product_left max c.none.result) (c.none.ensures max)
