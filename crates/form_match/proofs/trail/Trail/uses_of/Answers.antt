use Rattle.std.proofs.Common.{List, ap, ◌∙◌}
use Rattle.form_match.specs.declared.trail.Taken.{Taken}
use Rattle.form_match.specs.Places.{uses_at}
use Rattle.form_match.proofs.Taking.{uses_more, uses_end}
use Rattle.form_match.proofs.trail.Trail.uses_of.Goals as goal

pub loop-taken-preserved : goal.loop-taken-preserved
loop-taken-preserved c =
    uses_more c.as_slice-taken-items.result.now c.args.host c.loop-taken.taken-index c.taken-item.result c.loop-taken.uses c.put_use.new.uses c.loop-taken-test.true c.taken-item.is c.in_ok-put_use.ensures c.loop-taken.invariant

pub returns : goal.returns
returns c =
    uses_end c.as_slice-taken-items.result.now c.args.host c.loop-taken.taken-index c.loop-taken.uses c.loop-taken-test.false c.loop-taken.invariant
    ∙ ap (λ (l : List Taken). uses_at l c.args.host) c.as_slice-taken-items.ensures
