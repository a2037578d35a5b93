use Rattle.std.proofs.Common.{All, arith, subst, sym}
use Rattle.form_flow.specs.Making.{HasAllTrees}
use Rattle.tests_of_modules.proofs.Trees.{actions_have}
use Rattle.tests_of_modules.proofs.levels.actions_in.Goals as goal

pub returns-in-len1 : goal.returns-in-len1
returns-in-len1 c =
    subst (All HasAllTrees) (sym c.actions.ensures)
    (actions_have c.args.program.now c.modules.result.now c.only-item.result c.requires c.modules.ensures (omega (arith, c.in-len1.len_at_least)) c.only-item.is)
