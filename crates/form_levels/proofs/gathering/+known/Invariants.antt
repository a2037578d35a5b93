use Rattle.std.proofs.Common.{◌+◌, ◌*◌, take}
use Rattle.std.specs.List.{AllByRecursion}
use Rattle.form_levels.specs.Linear.{AreLinear, IsLinearBranch}
use Rattle.form_levels.proofs.gathering.+known.Given as goal

-- each call goes one function further, or into a block that a statement holds

abbrev pub decreases-is_known : goal.decreases-is_known
decreases-is_known l = 4 * goal.size-is_known l

abbrev pub decreases-are_known : goal.decreases-are_known
decreases-are_known l = 4 * goal.size-are_known l + 1

abbrev pub decreases-are_branches_known : goal.decreases-are_branches_known
decreases-are_branches_known l = 4 * goal.size-are_branches_known l + 2

abbrev pub decreases-is_last_known : goal.decreases-is_last_known
decreases-is_last_known l = 4 * goal.size-is_last_known l + 2

-- ---- all so far are linear

abbrev pub invariant-are_known-loop-action : goal.invariant-are_known-loop-action
invariant-are_known-loop-action l = AreLinear (take l.action-index l.block)

abbrev pub invariant-are_branches_known-loop-branch : goal.invariant-are_branches_known-loop-branch
invariant-are_branches_known-loop-branch l = AllByRecursion IsLinearBranch (take l.branch-index l.branches)
