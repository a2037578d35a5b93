use Rattle.form_blocks.proofs.Complete.{nested_read}
use Rattle.form_blocks.proofs.laws.what_is_nested_is_read.Goals as goal

pub returns : goal.returns
returns c = nested_read
