use Rattle.form_expand.specs.Products.{product_left}
use Rattle.form_expand.specs.Streams.{stream_left, stream_before}
use Rattle.form_expand.proofs.Streamed.{stream_term}
use Rattle.form_expand.proofs.stream.Stream.read_term.Goals as goal

pub returns-clause-found : goal.returns-clause-found
unfolding stream_left stream_before
returns-clause-found c =
    let s = c.args.self.now in
    let literal = c.in-Some.literal in
    let h = rw c.in-Some.is at c.in_ok-read.ensures in
    stream_term s.scope.limit s.given s.scope.names.now s.rest.now c.in-Some.rest.now literal.is_minus s.is_minus literal.term (product_left s.scope.limit s.product) h.list c.requires.done
