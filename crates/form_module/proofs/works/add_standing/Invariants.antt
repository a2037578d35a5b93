use Rattle.std.proofs.Common.{◌≡◌, ℕ, not, List, map, take, fold}
use Rattle.form_check.specs.declared.checked.Checked.{Checked}
use Rattle.form_module.specs.Places.{work_at}
use Rattle.form_module.specs.Sets.{has}
use Rattle.form_module.specs.Works.{and_standing, goes_through}
use Rattle.form_module.proofs.works.add_standing.Given as goal

-- with the expressions so far
abbrev pub invariant-loop-one : goal.invariant-loop-one
invariant-loop-one l = (s : List Checked) → ((e : ℕ) → goes_through s e ≡ not (has l.held e)) →
    map (work_at s) l.works.entries ≡ fold (and_standing s) (map (work_at s) l.fn.works.entries) (take l.one-index l.standing)
