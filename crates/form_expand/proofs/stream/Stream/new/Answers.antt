use Rattle.std.proofs.Common.{false, ap, ◌∙◌}
use Rattle.form_expand.specs.Products.{product_left}
use Rattle.form_expand.specs.Reading.{list_of_pieces}
use Rattle.form_expand.specs.Streams.{stream_left}
use Rattle.form_expand.proofs.Streamed.{stream_begun}
use Rattle.form_expand.proofs.Trees.{pieces_of_tree}
use Rattle.form_expand.proofs.stream.Stream.new.Goals as goal

pub returns-clause-pieces : goal.returns-clause-pieces
unfolding stream_left
returns-clause-pieces c =
    let max = c.args.scope.limit in
    stream_begun max c.args.scope.names.now false c.args.pieces.now (product_left max c.none.result) (c.none.ensures max)

pub returns-clause-tree : goal.returns-clause-tree
unfolding stream_left
returns-clause-tree c = λ s is.
    let max = c.args.scope.limit in
    let all = c.args.scope.names.now in
    stream_begun max all false c.args.pieces.now (product_left max c.none.result) (c.none.ensures max)
    ∙ ap (list_of_pieces max all) is ∙ pieces_of_tree max all s
