-- The product so far, times what is left, is that of all.
use Rattle.std.proofs.Common.{◌≡◌, length}
use Rattle.std.specs.Prelude.{Some}
use Rattle.form_normal.specs.Product.{coefficient_of}
use Rattle.form_normal.proofs.Coefficients.{times_all}
use Rattle.form_normal.proofs.several.coefficient_of_all.Given as goal

abbrev pub invariant-loop-factor : goal.invariant-loop-factor
invariant-loop-factor l = times_all (Some l.product) l.rest ≡ coefficient_of l.fn.factors

abbrev pub decreases-loop-factor : goal.decreases-loop-factor
decreases-loop-factor l = length l.rest
