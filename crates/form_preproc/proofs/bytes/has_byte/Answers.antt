use Rattle.std.proofs.Common.{◌∙◌}
use Rattle.form_preproc.proofs.Splits.{holds}
use Rattle.form_preproc.proofs.bytes.has_byte.Goals as goal

pub returns : goal.returns
returns c = c.is_some.ensures ∙ holds c.args.byte c.args.text.now c.memchr.result c.memchr.ensures
