use Rattle.std.proofs.Common.{refl}
use Rattle.form_expand.proofs.factors.front_times.Goals as goal

pub returns : goal.returns
returns c = λ t is. rw (c.in-None.is, c.in_ok-into_first-in-None.ensures t is) refl
