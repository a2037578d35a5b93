use Rattle.std.proofs.Common.{subst}
use Rattle.form_preproc.specs.Shallow.{AreShallow}
use Rattle.form_preproc.proofs.expander.Expander.step.Goals as goal

pub act-requires-clause-deep : goal.act-requires-clause-deep
act-requires-clause-deep g c = (subst AreShallow c.in-Some.ensures.popped c.requires).0

pub act-requires-clause-shallow : goal.act-requires-clause-shallow
act-requires-clause-shallow g c = (subst AreShallow c.in-Some.ensures.popped c.requires).1
