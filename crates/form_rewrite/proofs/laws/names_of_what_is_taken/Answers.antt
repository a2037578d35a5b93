use Rattle.form_rewrite.proofs.Sound.{take_out_sound}
use Rattle.form_rewrite.proofs.laws.names_of_what_is_taken.Goals as goal

pub returns : goal.returns
returns c = take_out_sound
