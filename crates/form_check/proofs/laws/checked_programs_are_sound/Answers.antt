use Rattle.form_check.proofs.Sound.{checked_is_sound}
use Rattle.form_check.proofs.laws.checked_programs_are_sound.Goals as goal

pub returns : goal.returns
returns c = checked_is_sound c.one_tree.ensures.found
