use Rattle.std.proofs.Common.{take}
use Rattle.form_flow.specs.Statements.{run}
use Rattle.form_levels.specs.Heaps.{limits_of}
use Rattle.form_levels.specs.Runs.{Comes}
use Rattle.form_levels.proofs.levels.Levels.statements.Given as goal

-- what came of those so far
abbrev pub invariant-loop-action : goal.invariant-loop-action
invariant-loop-action l = Comes (run (limits_of l.self) (take l.action-index l.others)) l.fn.terms.items l.terms.items
