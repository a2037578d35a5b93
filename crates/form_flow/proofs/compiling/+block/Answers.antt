use Rattle.std.proofs.Common.{subst, rules}
use Rattle.form_base.proofs.Branches.{branch_at_most}
use Rattle.form_base.specs.declared.block.Action.{the_lemmas}
use Rattle.form_flow.specs.Making.{HasAllTrees, HasBranchTrees, ready_of}
use Rattle.form_flow.proofs.Readying.{at_item, choose_has, choose_made, one_made, plain_has, plain_made, repeat_has, repeat_made, within_has, within_made}
use Rattle.form_flow.proofs.compiling.+block.Goals as goal

-- ---- rows

pub block_of-action_of-requires : goal.block_of-action_of-requires
block_of-action_of-requires t c =
    (search (rules, the_lemmas), at_item HasAllTrees c.as_slice-action-items.result.now c.args.checked.now c.loop-action.action-index c.action-item.result c.as_slice-action-items.ensures c.loop-action-test.true c.action-item.is c.requires)

pub block_of-loop-action-preserved : goal.block_of-loop-action-preserved
block_of-loop-action-preserved t c =
    one_made (ready_of c.args.limit) c.as_slice-action-items.result.now c.loop-action.action-index c.action-item.result c.loop-action.actions c.push.new.self c.in_ok-made.made
    c.loop-action-test.true c.action-item.is c.in_ok-made.ensures c.in_ok-push.ensures.ok c.loop-action.invariant

pub branches_of-question_of-requires : goal.branches_of-question_of-requires
branches_of-question_of-requires t c =
    (at_item HasBranchTrees c.as_slice-branch-items.result.now c.args.checked.now c.loop-branch.branch-index c.branch-item.result c.as_slice-branch-items.ensures c.loop-branch-test.true c.branch-item.is c.requires).0

pub branches_of-block_of-requires : goal.branches_of-block_of-requires
branches_of-block_of-requires t c =
    (search (rules, the_lemmas, branch_at_most), (at_item HasBranchTrees c.as_slice-branch-items.result.now c.args.checked.now c.loop-branch.branch-index c.branch-item.result c.as_slice-branch-items.ensures c.loop-branch-test.true c.branch-item.is c.requires).1)

-- ---- no block

pub action_of-leaf_of-requires : goal.action_of-leaf_of-requires
action_of-leaf_of-requires t c = plain_has c.in-Plain.leaf (subst HasAllTrees c.in-Plain.is c.requires)

pub action_of-returns-in_ok-made-in-Plain : goal.action_of-returns-in_ok-made-in-Plain
action_of-returns-in_ok-made-in-Plain t c = plain_made c.args.limit c.args.checked.now c.in-Plain.leaf c.in_ok-made-in-Plain.made c.in-Plain.is c.in_ok-made-in-Plain.ensures

-- ---- a `repeat`

pub action_of-block_of-requires : goal.action_of-block_of-requires
action_of-block_of-requires t c = (search (rules, the_lemmas), repeat_has c.in-Repeat.inner (subst HasAllTrees c.in-Repeat.is c.requires))

pub action_of-returns-in_ok-made-in-Repeat : goal.action_of-returns-in_ok-made-in-Repeat
action_of-returns-in_ok-made-in-Repeat t c = repeat_made c.args.limit c.args.checked.now c.in-Repeat.inner c.in_ok-made-in-Repeat.made c.in-Repeat.is c.in_ok-made-in-Repeat.ensures

-- ---- an `if`

pub action_of-branches_of-requires : goal.action_of-branches_of-requires
action_of-branches_of-requires t c = (search (rules, the_lemmas), (choose_has c.in-Choose.choices c.in-Choose.last (subst HasAllTrees c.in-Choose.is c.requires)).0)

pub action_of-last_of-requires : goal.action_of-last_of-requires
action_of-last_of-requires t c = (search (rules, the_lemmas), (choose_has c.in-Choose.choices c.in-Choose.last (subst HasAllTrees c.in-Choose.is c.requires)).1)

pub action_of-returns-in_ok-otherwise-in-Choose : goal.action_of-returns-in_ok-otherwise-in-Choose
action_of-returns-in_ok-otherwise-in-Choose t c =
    choose_made c.args.limit c.args.checked.now c.in-Choose.choices c.in-Choose.last c.in_ok-made-in-Choose.made c.in_ok-otherwise-in-Choose.otherwise c.in-Choose.is
    c.in_ok-made-in-Choose.ensures c.in_ok-otherwise-in-Choose.ensures

-- ---- an `argument`

pub action_of-block_of-requires-in-Within : goal.action_of-block_of-requires-in-Within
action_of-block_of-requires-in-Within t c = (search (rules, the_lemmas), within_has c.in-Within.picked c.in-Within.inner (subst HasAllTrees c.in-Within.is c.requires))

pub action_of-returns-in_ok-made-in-Within : goal.action_of-returns-in_ok-made-in-Within
action_of-returns-in_ok-made-in-Within t c =
    within_made c.args.limit c.args.checked.now c.in-Within.picked c.in-Within.inner c.in_ok-functions-in-Within.functions c.in_ok-made-in-Within.made c.in-Within.is
    c.in_ok-functions-in-Within.ensures c.in_ok-made-in-Within.ensures
