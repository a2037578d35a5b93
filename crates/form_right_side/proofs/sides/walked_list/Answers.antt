use Rattle.std.proofs.Common.{◌≡◌, ap, arith}
use Rattle.form_right_side.specs.Walking.{Walk}
use Rattle.form_right_side.proofs.sides.walked_list.Goals as goal

pub walked-requires : goal.walked-requires
walked-requires c =
    let calls : c.new-start.result.calls ≡ 0 = ap (λ (w : Walk). w.calls) c.new-start.ensures in
    omega (arith, calls)
