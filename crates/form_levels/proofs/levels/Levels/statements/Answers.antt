use Rattle.form_levels.specs.Heaps.{limits_of}
use Rattle.form_levels.proofs.Blocks.{nothing_comes}
use Rattle.form_levels.proofs.Stepping.{last_comes, none_come, one_come}
use Rattle.form_levels.proofs.levels.Levels.statements.Goals as goal

pub returns-in_default : goal.returns-in_default
returns-in_default c = none_come (limits_of c.args.self.now) c.args.block.now c.args.terms.items c.in_default.ensures.cases

pub loop-action-init : goal.loop-action-init
loop-action-init c = nothing_comes (limits_of c.args.self.now) c.args.terms.items

pub loop-action-preserved : goal.loop-action-preserved
loop-action-preserved c =
    one_come (limits_of c.args.self.now) c.in-Some.others.now c.args.terms.items c.loop-action.action-index c.action-item.result c.loop-action.terms.items c.in-Some-2.more.items
    c.loop-action-test.true c.action-item.is c.loop-action.invariant (rw c.in-Some-2.is at c.in_ok-more.ensures)

pub returns : goal.returns
returns c =
    last_comes (limits_of c.args.self.now) c.args.block.now c.args.terms.items c.in-Some.others.now c.loop-action.action-index c.in-Some.last.now c.loop-action.terms.items c.statement-2.result
    c.in-Some.ensures.cases.0 c.loop-action-test.false c.loop-action.invariant c.statement-2.ensures
