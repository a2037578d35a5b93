use Rattle.std.proofs.Common.{◌≡◌, ◌+◌, ◌*◌, max, take}
use Rattle.form_flow.specs.Statements.{action, run}
use Rattle.form_flow.specs.Ways.{Acting}
use Rattle.form_levels.specs.Heaps.{limits_of}
use Rattle.form_levels.specs.Runs.{Runs}
use Rattle.form_levels.proofs.Chosen.{BranchesInto}
use Rattle.form_levels.proofs.Stepping.{TurnsInto, last_size}
use Rattle.form_levels.proofs.levels.Levels.+levels.Given as goal

-- each call goes one function further, or into a block that a statement holds

abbrev pub decreases-act : goal.decreases-act
decreases-act l = 6 * goal.size-act l

abbrev pub decreases-act_on_both : goal.decreases-act_on_both
decreases-act_on_both l = 6 * goal.size-act_on_both l + 1

abbrev pub decreases-all : goal.decreases-all
decreases-all l = 6 * goal.size-all l + 2

abbrev pub decreases-block : goal.decreases-block
decreases-block l = 6 * goal.size-block l + 3

abbrev pub decreases-turns : goal.decreases-turns
decreases-turns l = 6 * goal.size-turns l + 4

abbrev pub decreases-otherwise : goal.decreases-otherwise
decreases-otherwise l = 6 * goal.size-otherwise l + 4

abbrev pub decreases-repeat : goal.decreases-repeat
decreases-repeat l = 6 * goal.size-repeat l + 5

abbrev pub decreases-choose : goal.decreases-choose
decreases-choose l = 6 * max (goal.size-choose l) (last_size l.last.now) + 5

-- ---- what was done so far

abbrev pub invariant-all-loop-action : goal.invariant-all-loop-action
invariant-all-loop-action l = Runs (run (limits_of l.self) (take l.action-index l.block)) l.fn.terms.items l.level.idle.items l.level.acted.items

abbrev pub invariant-turns-loop-begun : goal.invariant-turns-loop-begun
invariant-turns-loop-begun l = TurnsInto l.most (run (limits_of l.self) l.block) l.fn.terms.items l.fn.acted l._begun l.terms.items l.acted

abbrev pub invariant-choose-loop-branch : goal.invariant-choose-loop-branch
invariant-choose-loop-branch l = (act : Acting) → act ≡ action (limits_of l.self) →
    BranchesInto act l.branches l.last l.fn.terms.items l.fn.acted l.branch-index l.rest.items l.idle.items l.acted
