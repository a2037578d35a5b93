use Rattle.std.proofs.Common.{sym, ap, ◌∙◌}
use Rattle.std.specs.List.{list_any}
use Rattle.form_blocks.specs.Blocks.{is_block}
use Rattle.form_blocks.proofs.Closing.{any_turned}
use Rattle.form_blocks.proofs.opens.Opens.has_block.Goals as goal

pub returns : goal.returns
returns c = c.any_block.ensures ∙ ap (list_any (is_block c.args.kind)) c.as_slice.ensures.value ∙ sym (any_turned (is_block c.args.kind) c.self.inside.opens.items) ∙ ap (list_any (is_block c.args.kind)) c.self.view_is
