use Rattle.std.proofs.Common.{subst}
use Rattle.form_tree.specs.Tree.{Sum}
use Rattle.form_expand.specs.Expanding.{list_of_sum}
use Rattle.form_expand.specs.Meanings.{Meanings}
use Rattle.form_flow.specs.Rests.{names_in}
use Rattle.form_levels.specs.RightSides.{IsWhole}
use Rattle.form_levels.proofs.groups.Rules.list_of.Goals as goal

pub returns : goal.returns
returns c =
    let max = c.args.self.now.limit in
    let r = c.list_by.result in
    subst (λ (ms : Meanings). IsWhole (list_of_sum max ms c.args.part.now.right) r) c.bound-names.ensures
    (subst (λ (s : Sum). IsWhole (list_of_sum max (names_in c.bound-names.result) s) r) c.right-right.ensures c.list_by.ensures)
