use Rattle.std.proofs.Common.{◌≡◌, ap, arith}
use Rattle.form_right_side.specs.Walking.{Walk}
use Rattle.form_right_side.proofs.sides.walked_inside.Goals as goal

pub walked-requires : goal.walked-requires
walked-requires c =
    let calls : c.inside-start.result.calls ≡ 1 = ap (λ (w : Walk). w.calls) c.inside-start.ensures in
    omega (arith, calls)
