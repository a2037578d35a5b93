use Rattle.std.proofs.Common.{ap, ◌∙◌}
use Rattle.form_tree.specs.Tree.{pieces_of_sum}
use Rattle.form_flow.proofs.compiled.ReadySide.pieces.Goals as goal

pub returns : goal.returns
returns c = c.self.invariant.0 ∙ ap pieces_of_sum c.self.view_is
