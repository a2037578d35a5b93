use Rattle.std.proofs.Common.{◌∷◌, arith}
use Rattle.form_check.specs.Acting.{rewriting}
use Rattle.form_right_side.specs.Refusal.{listed}
use Rattle.form_right_side.proofs.Loops.{listed-next}
use Rattle.form_check.proofs.acting.rewritings.Goals as goal

pub loop-also-preserved : goal.loop-also-preserved
loop-also-preserved c =
    let f = rewriting c.args.names.now in
    rw c.in_ok-push-2.ensures.items
    (listed-next f c.args.others.now c.loop-also.rewritings.items c.in_ok-made.made c.loop-also.also-index c.also-item.result (listed f (c.args.id.now ∷ c.args.others.now)) (omega arith) c.also-item.is c.loop-also.invariant c.in_ok-made.ensures)
