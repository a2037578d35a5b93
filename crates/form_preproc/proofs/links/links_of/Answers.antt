use Rattle.std.proofs.Common.{arith}
use Rattle.form_preproc.proofs.Linking.{linked_at_end, taken_before}
use Rattle.form_preproc.proofs.links.links_of.Goals as goal

pub loop-place-init : goal.loop-place-init
loop-place-init c = rw (c.new-blocks.ensures, c.new-links.ensures) (record { within = omega arith; all = omega arith; outer = λ depth. linked_at_end _ c.args.lines.now depth; own = λ k lt. absurd (omega arith) })

pub loop-place-preserved : goal.loop-place-preserved
loop-place-preserved c =
    taken_before (λ line. line.key) c.args.lines.now c.loop-place.place c.index-lines-place.result c.key.result c.first_link-link.result c.loop-place.blocks c.loop-place.links c.take.new.blocks c.push.new.self
    c.loop-place-test.true c.index-lines-place.is c.key.ensures.value c.first_link-link.ensures c.in_ok-take.ensures c.in_ok-push.ensures.pushed c.loop-place.invariant
