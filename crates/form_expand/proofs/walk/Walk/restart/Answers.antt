use Rattle.std.proofs.Common.{◌≡◌, ◌-◌, refl, arith}
use Rattle.form_expand.proofs.walk.Walk.restart.Goals as goal

pub returns-clause-left : goal.returns-clause-left
returns-clause-left c = λ max. let e : max - 0 ≡ max = omega arith in rw e refl
