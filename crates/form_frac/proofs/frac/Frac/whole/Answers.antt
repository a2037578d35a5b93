use Rattle.std.proofs.Common.{to_z-of_z}
use Rattle.form_frac.proofs.Fractions.{whole_is_lowest}
use Rattle.form_frac.proofs.frac.Frac.whole.Goals as goal

pub invariant_of-result : goal.invariant_of-result
invariant_of-result c = let fits = c.ranges.n in rw (to_z-of_z fits) (whole_is_lowest c.args.n c.requires)
