use Rattle.std.proofs.Common.{rules}
use Rattle.form_levels.proofs.Carrying.{all_gone}
use Rattle.form_levels.proofs.Leaves.{discarded_run}
use Rattle.form_levels.proofs.levels.Levels.leaf.Goals as goal

pub returns-in-Discard : goal.returns-in-Discard
returns-in-Discard c = rw c.in-Discard.is (all_gone _ _ _ _ (search rules) (discarded_run _ _))
