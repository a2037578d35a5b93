use Rattle.form_blocks.proofs.Sound.{reading_sound}
use Rattle.form_blocks.proofs.laws.what_is_read_is_nested.Goals as goal

pub returns : goal.returns
returns c = reading_sound
