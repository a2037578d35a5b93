use Rattle.std.proofs.Common.{◌∙◌}
use Rattle.form_flow.specs.Rests.{rest_in}
use Rattle.form_flow.proofs.Resting.{last_part, next_part}
use Rattle.form_flow.proofs.rest.rest.Goals as goal

pub loop-part-init : goal.loop-part-init
loop-part-init c = (c.untaken-rest.ensures.limit, c.untaken-rest.ensures.rest)

pub loop-part-preserved : goal.loop-part-preserved
loop-part-preserved c = (
  c.in_ok-rest.ensures.limit ∙ c.loop-part.invariant.0,
  next_part c.args.limit c.loop-part.rest.limit c.as_slice-parts.result.now c.args.term c.loop-part.part-index c.part-item.result (rest_in c.loop-part.rest) (rest_in c.in_ok-rest.rest)
      c.loop-part-test.true c.part-item.is c.loop-part.invariant.0 c.in_ok-rest.ensures.rest c.loop-part.invariant.1,
)

pub returns-clause-rest : goal.returns-clause-rest
returns-clause-rest c =
    last_part c.args.limit c.as_slice-parts.result.now c.args.group.now c.args.term c.loop-part.part-index (rest_in c.loop-part.rest) c.as_slice-parts.ensures c.loop-part-test.false c.loop-part.invariant.1
