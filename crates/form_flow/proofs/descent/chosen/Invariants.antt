use Rattle.std.proofs.Common.{◌≡◌, drop, map, option_map}
use Rattle.form_flow.specs.Statements.{branch_by, first_branch}
use Rattle.form_flow.specs.Ways.{Acting, acts_of}
use Rattle.form_flow.proofs.descent.chosen.Given as goal

-- none of the branches before is taken
abbrev pub invariant-loop-branch : goal.invariant-loop-branch
invariant-loop-branch l =
    (act : Acting) → first_branch (map (branch_by act) l.branches) (option_map (acts_of act) l.last) l.item
    ≡ first_branch (map (branch_by act) (drop l.branch-index l.branches)) (option_map (acts_of act) l.last) l.item
