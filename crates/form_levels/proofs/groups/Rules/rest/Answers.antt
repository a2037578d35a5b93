use Rattle.std.proofs.Common.{List, [], false, refl, ap}
use Rattle.form_flow.proofs.Resting.{last_part, next_part}
use Rattle.form_levels.specs.declared.groups.Repeated.{Repeated}
use Rattle.form_levels.specs.Groups.{lists_behind, rest_in}
use Rattle.form_levels.proofs.groups.Rules.rest.Goals as goal

pub loop-part-init : goal.loop-part-init
loop-part-init c = ap (λ (all : List Repeated). record { left = c.args.term; cuts = []; behind = lists_behind all; has_matched = false }) c.new.ensures.items

pub loop-part-preserved : goal.loop-part-preserved
loop-part-preserved c =
    let max = c.args.self.now.limit in
    next_part max max c.as_slice-parts.result.now c.args.term c.loop-part.part-index c.part-item.result (rest_in c.loop-part.rest) (rest_in c.in-Some.more)
    c.loop-part-test.true c.part-item.is refl (rw c.in-Some.is at c.in_ok-more.ensures) c.loop-part.invariant

pub returns : goal.returns
returns c =
    last_part c.args.self.now.limit c.as_slice-parts.result.now c.args.self.now.group.now c.args.term c.loop-part.part-index (rest_in c.loop-part.rest) c.as_slice-parts.ensures c.loop-part-test.false c.loop-part.invariant
