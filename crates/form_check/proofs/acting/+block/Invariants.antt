use Rattle.std.proofs.Common.{◌≡◌, ◌+◌, ◌*◌, drop}
use Rattle.form_check.specs.Acting.{action, branch}
use Rattle.form_right_side.specs.Refusal.{listed}
use Rattle.form_right_side.proofs.Loops.{behind}
use Rattle.form_check.proofs.acting.+block.Given as goal

-- what stands in a block, in branches, in a statement: each calls what follows

abbrev pub decreases-action : goal.decreases-action
decreases-action l = 3 * goal.size-action l

abbrev pub decreases-block : goal.decreases-block
decreases-block l = 3 * goal.size-block l + 1

abbrev pub decreases-last_block : goal.decreases-last_block
decreases-last_block l = 3 * goal.size-last_block l + 2

abbrev pub decreases-branches : goal.decreases-branches
decreases-branches l = 3 * goal.size-branches l + 2

-- what was made and what is left give what all give

abbrev pub invariant-block-loop-one : goal.invariant-block-loop-one
invariant-block-loop-one l = listed (action l.names) l.one-items ≡ behind l.actions (listed (action l.names) (drop l.one-index l.one-items))

abbrev pub invariant-branches-loop-one : goal.invariant-branches-loop-one
invariant-branches-loop-one l = listed (branch l.names) l.one-items ≡ behind l.branches (listed (branch l.names) (drop l.one-index l.one-items))
