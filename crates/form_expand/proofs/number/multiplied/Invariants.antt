use Rattle.std.proofs.Common.{◌≡◌}
use Rattle.std.specs.Prelude.{Some}
use Rattle.form_expand.specs.Numbers.{raised}
use Rattle.form_expand.proofs.number.multiplied.Given as goal

abbrev pub invariant-loop-made : goal.invariant-loop-made
invariant-loop-made l = raised l.base l._made ≡ Some l.product
