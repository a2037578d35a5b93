use Rattle.std.proofs.Common.{option_map, sym, ◌∙◌}
use Rattle.form_flow.specs.Ways.{acts_of}
use Rattle.form_flow.proofs.Acting.{branch_fails, branch_holds, branch_weighs, last_branch, last_weighs, not_taken}
use Rattle.form_flow.proofs.descent.chosen.Goals as goal

pub returns-then-truth-clause-taken : goal.returns-then-truth-clause-taken
returns-then-truth-clause-taken c act =
    c.loop-branch.invariant act
    ∙ branch_holds act c.args.branches.now c.loop-branch.branch-index c.branch-item.result (option_map (acts_of act) c.args.last.now) c.args.item.now
    c.loop-branch-test.true c.branch-item.is (sym c.in_ok-truth.ensures.holds ∙ c.if-truth.true)

pub returns-then-truth-clause-weight : goal.returns-then-truth-clause-weight
returns-then-truth-clause-weight c at =
    branch_weighs at c.args.branches.now c.loop-branch.branch-index c.branch-item.result c.args.last.now c.loop-branch-test.true c.branch-item.is

pub loop-branch-preserved : goal.loop-branch-preserved
loop-branch-preserved c act =
    c.loop-branch.invariant act
    ∙ branch_fails act c.args.branches.now c.loop-branch.branch-index c.branch-item.result (option_map (acts_of act) c.args.last.now) c.args.item.now
    c.loop-branch-test.true c.branch-item.is (sym c.in_ok-truth.ensures.holds ∙ c.if-truth.false)

pub returns-in-Some-clause-taken : goal.returns-in-Some-clause-taken
returns-in-Some-clause-taken c act =
    c.loop-branch.invariant act
    ∙ last_branch act c.args.branches.now c.loop-branch.branch-index c.args.last.now c.in-Some.block c.args.item.now c.loop-branch-test.false c.in-Some.is

pub returns-in-Some-clause-weight : goal.returns-in-Some-clause-weight
returns-in-Some-clause-weight c at = last_weighs at c.args.branches.now c.args.last.now c.in-Some.block c.in-Some.is

pub returns-in-None-clause-taken : goal.returns-in-None-clause-taken
returns-in-None-clause-taken c act =
    c.loop-branch.invariant act
    ∙ not_taken act c.args.branches.now c.loop-branch.branch-index c.args.last.now c.args.item.now c.loop-branch-test.false c.in-None.is
