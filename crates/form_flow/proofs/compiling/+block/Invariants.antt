use Rattle.std.proofs.Common.{◌≡◌, ◌+◌, ◌*◌, take, map}
use Rattle.form_flow.specs.Making.{branch_of, ready_of}
use Rattle.form_flow.proofs.compiling.+block.Given as goal

abbrev pub invariant-block_of-loop-action : goal.invariant-block_of-loop-action
invariant-block_of-loop-action l = l.actions ≡ map (ready_of l.limit) (take l.action-index l.action-items)

abbrev pub invariant-branches_of-loop-branch : goal.invariant-branches_of-loop-branch
invariant-branches_of-loop-branch l = l.branches ≡ map (branch_of l.limit) (take l.branch-index l.branch-items)

-- an action is deeper than what stands in it
abbrev pub decreases-action_of : goal.decreases-action_of
decreases-action_of l = 3 * goal.size-action_of l

abbrev pub decreases-block_of : goal.decreases-block_of
decreases-block_of l = 3 * goal.size-block_of l + 1

abbrev pub decreases-last_of : goal.decreases-last_of
decreases-last_of l = 3 * goal.size-last_of l + 2

abbrev pub decreases-branches_of : goal.decreases-branches_of
decreases-branches_of l = 3 * goal.size-branches_of l + 2
