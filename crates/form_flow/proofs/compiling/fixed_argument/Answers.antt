use Rattle.std.proofs.Common.{◌≡◌, ◌∙◌}
use Rattle.std.proofs.lemmas.Result.{IfOk-weaker}
use Rattle.form_flow.specs.Making.{entry_of}
use Rattle.form_flow.proofs.Readying.{argument_is, pieces_kept}
use Rattle.form_flow.proofs.compiling.fixed_argument.Goals as goal

pub returns : goal.returns
returns c =
    let tree = c.requires in
    IfOk-weaker c.argument_pieces.result _ (λ call. pieces_kept call ≡ entry_of c.args.limit c.args.tree.now)
    (λ call e. e ∙ argument_is c.args.limit c.nothing_bound-nothing.result c.args.tree.now tree c.nothing_bound-nothing.ensures) (c.argument_pieces.ensures.pieces tree.0 (c.as_slice.ensures ∙ tree.1))
